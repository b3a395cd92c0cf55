use Rattle.std.proofs.Common.{◌≡◌, ◌≤◌, length, take}
use Rattle.std.specs.Prelude.{map}
use Rattle.std.specs.List.{filter_map}
use Rattle.cstn_net.specs.Read.{the_constraint}
use Rattle.cstn_lift.specs.Lowered.{with_full_label}
use Rattle.cstn_lift.specs.Read.{with_labels}
use Rattle.cstn_lift.specs.Handed.{HasConstraints}
use Rattle.cstn_lift.proofs.lowering.add_full.Given as goal

abbrev pub invariant-loop-c : goal.invariant-loop-c
invariant-loop-c l = record {
  added : HasConstraints (filter_map (with_full_label (with_labels l.net l.labels)) (map the_constraint (take l.c-index l.net.constraints))) l.builder.drafts;
  few : length l.builder.drafts ≤ l.c-index;
  deadline : l.builder.deadline ≡ l.initial.builder.deadline;
  points : l.builder.points ≡ l.initial.builder.points;
}
