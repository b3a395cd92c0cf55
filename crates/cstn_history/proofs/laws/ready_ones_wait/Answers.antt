use Rattle.cstn_history.proofs.Ready.{ready_waits, waits_ready}
use Rattle.cstn_history.proofs.laws.ready_ones_wait.Goals as goal

pub returns : goal.returns
returns c = λ m h t x here none can. (ready_waits m h t x here none can, waits_ready m h t x)
