use Rattle.cstn_history.proofs.Ready.{ready_waits, waits_ready}
use Rattle.cstn_history.proofs.Waiting.{waits_less}
use Rattle.cstn_follow.proofs.laws.what_waits_may_be_ready_as_late.Goals as goal

pub returns : goal.returns
returns c = λ m h x t u here none can latest. (
  (λ goes. latest.last u (ready_waits m h u x here none can goes)),
  (λ upto. waits_ready m h u x (waits_less m h x t u upto latest.waits)),
)
