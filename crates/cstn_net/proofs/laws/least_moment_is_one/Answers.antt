use Rattle.cstn_net.proofs.Dynamic.{one_least}
use Rattle.cstn_net.proofs.laws.least_moment_is_one.Goals as goal

pub returns : goal.returns
returns c = one_least
