use Rattle.cstn_lift.proofs.CompletionLemmas.{completed_contains, completed_complete, completed_least, completed_idempotent, completed_grows}
use Rattle.cstn_lift.proofs.laws.completion_is_a_closure.Goals as goal

pub returns : goal.returns
returns c = record {
  contains = completed_contains;
  complete = completed_complete;
  least = completed_least;
  idempotent = completed_idempotent;
  grows = completed_grows;
}
