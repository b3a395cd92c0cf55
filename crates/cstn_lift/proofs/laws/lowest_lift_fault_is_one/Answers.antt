use Rattle.cstn_lift.proofs.OneFault.{one_lowest}
use Rattle.cstn_lift.proofs.laws.lowest_lift_fault_is_one.Goals as goal

pub returns : goal.returns
returns c = one_lowest
