use Rattle.std.proofs.Common.{◌≡◌}
use Rattle.cstn_net.specs.Read.{the_network}
use Rattle.cstn_lift.specs.Handed.{HasPoints}
use Rattle.cstn_lift.proofs.lowering.add_points.Given as goal

abbrev pub invariant-loop-x : goal.invariant-loop-x
invariant-loop-x l = record {
  points : HasPoints (the_network l.net) l.x l.builder.points;
  deadline : l.builder.deadline ≡ l.initial.builder.deadline;
  drafts : l.builder.drafts ≡ l.initial.builder.drafts;
}
