use Rattle.cstn_net.proofs.Kept.{later_deadline, fewer_constraints}
use Rattle.cstn_net.proofs.laws.strategies_are_kept.Goals as goal

pub returns-clause-deadline : goal.returns-clause-deadline
returns-clause-deadline c = later_deadline

pub returns-clause-constraints : goal.returns-clause-constraints
returns-clause-constraints c = fewer_constraints
