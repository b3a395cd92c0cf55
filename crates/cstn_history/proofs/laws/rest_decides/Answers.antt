use Rattle.cstn_history.proofs.Decides.{can_both, least_both}
use Rattle.cstn_history.proofs.laws.rest_decides.Goals as goal

pub returns : goal.returns
returns c = record {
  can = λ m h fresh good known. can_both m h fresh good known;
  least = λ m h fresh s x t good known agrees here none seen. least_both m h fresh good known s x agrees here none seen t;
}
