use Rattle.cstn_save.proofs.SameLemmas.{accepted, labelled_back, same_but_ids}
use Rattle.cstn_save.proofs.UnlabelledLemmas.{unlabelled_fit, labelled_fit}
use Rattle.cstn_save.proofs.FitLemmas.{fit_back}
use Rattle.cstn_save.proofs.laws.documents_are_read_back.Goals as goal

pub returns-clause-accepted : goal.returns-clause-accepted
returns-clause-accepted c = accepted

pub returns-clause-unlabelled : goal.returns-clause-unlabelled
returns-clause-unlabelled c = unlabelled_fit

pub returns-clause-labelled : goal.returns-clause-labelled
returns-clause-labelled c = labelled_fit

pub returns-clause-same_but_ids : goal.returns-clause-same_but_ids
returns-clause-same_but_ids c = same_but_ids

pub returns-clause-same : goal.returns-clause-same
returns-clause-same c = labelled_back

pub returns-clause-fit : goal.returns-clause-fit
returns-clause-fit c = λ m names. fit_back m names (λ n good few e. c.labelled_networks_have_no_fault.ensures.few n e good few)
