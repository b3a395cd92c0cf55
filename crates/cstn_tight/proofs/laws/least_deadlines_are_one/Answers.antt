use Rattle.cstn_tight.proofs.LeastLemmas.{one_least}
use Rattle.cstn_tight.proofs.laws.least_deadlines_are_one.Goals as goal

pub returns : goal.returns
returns c = one_least
