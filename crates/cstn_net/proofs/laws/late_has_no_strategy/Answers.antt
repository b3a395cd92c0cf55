use Rattle.cstn_net.proofs.Late.{no_strategy}
use Rattle.cstn_net.proofs.laws.late_has_no_strategy.Goals as goal

pub returns-clause-strategy : goal.returns-clause-strategy
returns-clause-strategy c = no_strategy
