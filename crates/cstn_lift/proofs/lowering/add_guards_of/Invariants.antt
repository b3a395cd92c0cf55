use Rattle.std.proofs.Common.{◌≡◌, ◌≤◌, ◌+◌, ◌-◌, ◌++◌, List, length}
use Rattle.std.specs.List.{filter_map, range_with_len}
use Rattle.cstn_label.specs.Read.{marks}
use Rattle.cstn_net.specs.Networks.{Constraint}
use Rattle.cstn_net.specs.Read.{the_network}
use Rattle.cstn_lift.specs.Lowered.{guard}
use Rattle.cstn_lift.specs.Handed.{HasConstraints}
use Rattle.cstn_lift.proofs.lowering.add_guards_of.Given as goal

abbrev pub invariant-loop-p : goal.invariant-loop-p
invariant-loop-p l = record {
  range : l.from ≤ 52;
  added : (cs : List Constraint) → HasConstraints cs l.initial.builder.drafts →
      HasConstraints (cs ++ filter_map (guard (the_network l.net) l.x.0 (marks l.label)) (range_with_len 0 l.from)) l.builder.drafts;
  few : length l.builder.drafts ≤ length l.initial.builder.drafts + l.from;
  deadline : l.builder.deadline ≡ l.initial.builder.deadline;
  points : l.builder.points ≡ l.initial.builder.points;
}

abbrev pub decreases-loop-p : goal.decreases-loop-p
decreases-loop-p l = 52 - l.from
