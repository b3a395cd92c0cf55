use Rattle.cstn_net.proofs.NoFault.{made_good}
use Rattle.cstn_net.proofs.laws.builders_without_a_lowest_fault_make_networks.Goals as goal

pub returns : goal.returns
returns c = made_good
