use Rattle.cstn_lift.proofs.Equivalent.{equivalent}
use Rattle.cstn_lift.proofs.laws.lowered_is_equivalent.Goals as goal

pub returns : goal.returns
returns c = equivalent
