use Rattle.cstn_follow.proofs.LastNow.{eased_continues, at_eased, ready_eased}
use Rattle.cstn_follow.proofs.laws.earlier_is_no_worse.Goals as goal

pub returns : goal.returns
returns c = record {
  table = λ m h easier table eased goes. eased_continues m h easier table eased goes;
  can = λ m h easier eased can. (can.0, eased_continues m h easier can.0 eased can.1);
  now = at_eased;
  ready = ready_eased;
}
