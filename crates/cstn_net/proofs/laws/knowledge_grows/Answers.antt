use Rattle.cstn_net.proofs.Knowledge.{known_later, known_when_passed, unknown_at_observer, agrees_itself}
use Rattle.cstn_net.proofs.laws.knowledge_grows.Goals as goal

pub returns-clause-later : goal.returns-clause-later
returns-clause-later c = known_later

pub returns-clause-passed : goal.returns-clause-passed
returns-clause-passed c = known_when_passed

pub returns-clause-observer : goal.returns-clause-observer
returns-clause-observer c = unknown_at_observer

pub returns-clause-reflexive : goal.returns-clause-reflexive
returns-clause-reflexive c = agrees_itself
