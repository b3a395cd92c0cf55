use Rattle.cstn_net.proofs.Kept.{later_deadline, fewer_constraints}
use Rattle.cstn_net.proofs.laws.consistency_is_kept.Goals as goal

pub returns-clause-deadline : goal.returns-clause-deadline
returns-clause-deadline c net h upto consistent = (consistent.0, later_deadline net consistent.0 h upto consistent.1)

pub returns-clause-constraints : goal.returns-clause-constraints
returns-clause-constraints c net cs among consistent = (consistent.0, fewer_constraints net consistent.0 cs among consistent.1)
