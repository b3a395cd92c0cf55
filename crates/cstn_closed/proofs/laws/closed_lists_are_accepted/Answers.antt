use Rattle.cstn_closed.proofs.FaultLemmas.{closed_faultless, one_first}
use Rattle.cstn_closed.proofs.laws.closed_lists_are_accepted.Goals as goal

pub returns-clause-accepted : goal.returns-clause-accepted
returns-clause-accepted c = closed_faultless

pub returns-clause-one : goal.returns-clause-one
returns-clause-one c = one_first
