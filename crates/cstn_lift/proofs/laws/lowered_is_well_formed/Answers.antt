use Rattle.cstn_lift.proofs.WellFormed.{lowered_well_formed, plain_and_observed}
use Rattle.cstn_lift.proofs.LoweredLemmas.{only}
use Rattle.cstn_lift.proofs.Twins.{lowered_complete}
use Rattle.cstn_lift.proofs.laws.lowered_is_well_formed.Goals as goal

pub returns : goal.returns
returns c = record {
  well_formed = lowered_well_formed;
  labels = λ m d good has.
      let both = plain_and_observed m good d (only m good d has) in
      (both.0, both.1, lowered_complete m good d (only m good d has));
}
