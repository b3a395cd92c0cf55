use Rattle.std.proofs.Common.{◌++◌, refl}
use Rattle.cstn_check.proofs.Grows.{spent_kept}
use Rattle.cstn_check.proofs.laws.spent_instances_stay_spent.Goals as goal

pub returns : goal.returns
returns c = λ net list more i within spent. spent_kept net list (list ++ more) i (record { more = more; is = refl }) within spent
