use Rattle.cstn_lift.proofs.LoweredLemmas.{observer_found, observer_back, observer_none}
use Rattle.cstn_lift.proofs.laws.observers_are_found.Goals as goal

pub returns : goal.returns
returns c = record {
  found = λ net x p good o. observer_found net good x p o;
  only = observer_back;
  none = observer_none;
}
