use Rattle.cstn_net.proofs.Branch.{table_is_strategy}
use Rattle.cstn_net.proofs.laws.branch_has_a_strategy.Goals as goal

pub returns-clause-strategy : goal.returns-clause-strategy
returns-clause-strategy c = table_is_strategy
