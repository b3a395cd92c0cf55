use Rattle.cstn_check.proofs.DeadlineLemmas.{log_upto, late_decides}
use Rattle.cstn_check.proofs.deadlines.logs_hold_lower_ones.Goals as goal

pub returns-clause-log : goal.returns-clause-log
returns-clause-log c = log_upto

pub returns-clause-decides : goal.returns-clause-decides
returns-clause-decides c = late_decides
