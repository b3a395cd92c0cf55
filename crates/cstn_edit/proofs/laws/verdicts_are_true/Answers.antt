use Rattle.cstn_edit.proofs.SessionLaws.{outcome_is_true, full_is_exact}
use Rattle.cstn_edit.proofs.laws.verdicts_are_true.Goals as goal

pub returns-clause-truth : goal.returns-clause-truth
returns-clause-truth c = outcome_is_true

pub returns-clause-full : goal.returns-clause-full
returns-clause-full c = full_is_exact
