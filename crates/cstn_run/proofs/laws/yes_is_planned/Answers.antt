use Rattle.cstn_run.proofs.Planned.{planned}
use Rattle.cstn_run.proofs.laws.yes_is_planned.Goals as goal

pub returns : goal.returns
returns c = record { planned = planned }
