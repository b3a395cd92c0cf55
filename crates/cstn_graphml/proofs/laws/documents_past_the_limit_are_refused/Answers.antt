use Rattle.cstn_graphml.proofs.PastTheLimit.{no_network, lowest}
use Rattle.cstn_graphml.proofs.laws.documents_past_the_limit_are_refused.Goals as goal

pub returns : goal.returns
returns c = record { no_network = no_network; told = lowest }
