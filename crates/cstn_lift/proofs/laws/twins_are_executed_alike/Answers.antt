use Rattle.cstn_lift.proofs.Executed.{executed_or_not, observers_executed, twin_right, twin_left}
use Rattle.cstn_lift.proofs.Twins.{twin_moment, twin_least}
use Rattle.cstn_lift.proofs.laws.twins_are_executed_alike.Goals as goal

pub returns : goal.returns
returns c = record {
  decided = λ m s x good. executed_or_not m good s x;
  observers = λ m s x j p good. observers_executed m good s x j p;
  executed = λ m s r x good same. (twin_right m good s r same x, twin_left m good s r same x);
  moments = twin_moment;
  least = λ m s r x t good. twin_least m good s r x t;
}
