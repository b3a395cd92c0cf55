use Rattle.std.proofs.Common.{◌≡◌, length}
use Rattle.cstn_lift.specs.Handed.{HasPoints}
use Rattle.cstn_lift.specs.Read.{the_labelled}
use Rattle.cstn_history.specs.Read.{the_history}
use Rattle.cstn_history.specs.Handed.{bared}
use Rattle.cstn_history.proofs.rests.add_points.Given as goal

abbrev pub invariant-loop-x : goal.invariant-loop-x
invariant-loop-x l = record {
  points : HasPoints (bared (the_labelled l.network) (the_history l.history)) (length l.builder.points) l.builder.points;
  long : length l.builder.points ≡ l.x-index;
  deadline : l.builder.deadline ≡ l.initial.builder.deadline;
  drafts : l.builder.drafts ≡ l.initial.builder.drafts;
}
