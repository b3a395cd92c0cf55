use Rattle.cstn_net.proofs.OneFault.{one_lowest}
use Rattle.cstn_net.proofs.laws.lowest_net_fault_is_one.Goals as goal

pub returns : goal.returns
returns c = one_lowest
