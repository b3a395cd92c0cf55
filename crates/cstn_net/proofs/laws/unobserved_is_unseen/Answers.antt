use Rattle.cstn_net.proofs.Dynamic.{same_moments}
use Rattle.cstn_net.proofs.laws.unobserved_is_unseen.Goals as goal

pub returns : goal.returns
returns c = same_moments
