use Rattle.cstn_history.proofs.Waiting.{waits_both, waits_less}
use Rattle.cstn_history.proofs.laws.waiting_is_decided.Goals as goal

pub returns : goal.returns
returns c = record {
  until = λ m h fresh x t good known here none left. waits_both m h fresh x t good known here none left;
  earlier = waits_less;
}
