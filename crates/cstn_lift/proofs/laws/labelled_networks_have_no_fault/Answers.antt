use Rattle.cstn_lift.proofs.FaultLemmas.{no_fault}
use Rattle.cstn_lift.proofs.laws.labelled_networks_have_no_fault.Goals as goal

pub returns-clause-few : goal.returns-clause-few
returns-clause-few c = λ m e good few. no_fault m good few e

pub returns-clause-well_formed : goal.returns-clause-well_formed
returns-clause-well_formed c = λ m e good wf. no_fault m good wf.few_constraints e
