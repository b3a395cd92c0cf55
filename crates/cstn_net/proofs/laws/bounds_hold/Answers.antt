use Rattle.cstn_net.proofs.Knowledge.{dominated_holds, base_holds, holds_by_cases}
use Rattle.cstn_net.proofs.laws.bounds_hold.Goals as goal

pub returns-clause-dominated : goal.returns-clause-dominated
returns-clause-dominated c = dominated_holds

pub returns-clause-base : goal.returns-clause-base
returns-clause-base c = base_holds

pub returns-clause-cases : goal.returns-clause-cases
returns-clause-cases c = holds_by_cases
