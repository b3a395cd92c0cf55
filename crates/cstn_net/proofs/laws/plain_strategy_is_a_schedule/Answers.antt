use Rattle.cstn_net.proofs.Plain.{plain_strategy, plain_rows, plain_least}
use Rattle.cstn_net.proofs.laws.plain_strategy_is_a_schedule.Goals as goal

pub returns-clause-consistent : goal.returns-clause-consistent
returns-clause-consistent c = plain_strategy

pub returns-clause-rows : goal.returns-clause-rows
returns-clause-rows c = plain_rows

pub returns-clause-least : goal.returns-clause-least
returns-clause-least c = plain_least
