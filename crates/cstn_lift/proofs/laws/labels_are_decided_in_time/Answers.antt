use Rattle.cstn_lift.proofs.Twins.{decided_executed, decided_known}
use Rattle.cstn_lift.proofs.laws.labels_are_decided_in_time.Goals as goal

pub returns : goal.returns
returns c = record {
  executed = λ m table s x good strategy. decided_executed m good table strategy s x;
  known = λ m table s x p good strategy here possible. decided_known m good table strategy s x here possible p;
}
