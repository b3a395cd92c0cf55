use Rattle.std.proofs.Common.{subst, sym}
use Rattle.cstn_lift.specs.Completion.{completed_label}
use Rattle.cstn_lift.specs.Strategies.{IsExecuted}
use Rattle.cstn_history.proofs.Settled.{told_itself, holds_allows}
use Rattle.cstn_history.proofs.Places.{left_coming}
use Rattle.cstn_history.proofs.Labels.{completed_new}
use Rattle.cstn_history.proofs.ToRest.{executed_left, executed_back}
use Rattle.cstn_history.proofs.WellFormed.{rest_labelled}
use Rattle.cstn_history.proofs.laws.rest_is_labelled.Goals as goal

pub returns : goal.returns
returns c = record {
  labelled = λ m h fresh good known timely above few. rest_labelled m h fresh good known timely above few;
  completed = λ m h fresh x good known here left. completed_new m h fresh good known x here left;
  executed = λ m h fresh x s good known here agrees left. (
    (λ e. executed_left m h fresh good known s x here left (subst (λ r. IsExecuted m r x) (sym (told_itself h s agrees)) e)),
    (λ e. subst (λ r. IsExecuted m r x) (told_itself h s agrees) (executed_back m h fresh good known s x here left e)),
  );
  gone = λ m h x s good known agrees none e. left_coming m h 0 good known x none (holds_allows h (completed_label m x) s agrees e);
}
