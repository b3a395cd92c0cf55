use Rattle.cstn_check.proofs.Idle.{log_same, log_without}
use Rattle.cstn_check.proofs.givers.logs_stay_without_idle_constraints.Goals as goal

pub returns-clause-one : goal.returns-clause-one
returns-clause-one c = log_without

pub returns-clause-some : goal.returns-clause-some
returns-clause-some c = log_same
