use Rattle.cstn_net.proofs.Dynamic.{one_sided}
use Rattle.cstn_net.proofs.laws.dynamic_is_one_sided.Goals as goal

pub returns : goal.returns
returns c = one_sided
