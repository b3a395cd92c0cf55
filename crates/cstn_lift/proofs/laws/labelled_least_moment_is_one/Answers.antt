use Rattle.cstn_lift.proofs.Observed.{one_least}
use Rattle.cstn_lift.proofs.laws.labelled_least_moment_is_one.Goals as goal

pub returns : goal.returns
returns c = one_least
