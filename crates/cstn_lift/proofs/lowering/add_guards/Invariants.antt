use Rattle.std.proofs.Common.{◌≡◌, ◌≤◌, ◌+◌, ◌*◌, ◌++◌, List, length}
use Rattle.std.specs.Prelude.{map}
use Rattle.std.specs.List.{flat_map, range_with_len}
use Rattle.cstn_label.specs.Read.{marks}
use Rattle.cstn_net.specs.Limits.{most_constraints}
use Rattle.cstn_net.specs.Networks.{Constraint}
use Rattle.cstn_net.specs.Read.{the_network}
use Rattle.cstn_lift.specs.Lowered.{guards_with}
use Rattle.cstn_lift.specs.Handed.{HasConstraints}
use Rattle.cstn_lift.proofs.lowering.add_guards.Given as goal

abbrev pub invariant-loop-x : goal.invariant-loop-x
invariant-loop-x l = record {
  added : (cs : List Constraint) → HasConstraints cs l.initial.builder.drafts →
      HasConstraints (cs ++ flat_map (guards_with (the_network l.net) (map marks l.whole)) (range_with_len 0 l.x)) l.builder.drafts;
  few : length l.builder.drafts ≤ most_constraints + 52 * l.x;
  deadline : l.builder.deadline ≡ l.initial.builder.deadline;
  points : l.builder.points ≡ l.initial.builder.points;
}
