use Rattle.cstn_check.proofs.Decides.{load_bounded}
use Rattle.cstn_check.proofs.Ends.{load_above}
use Rattle.cstn_check.proofs.laws.growth_is_bounded.Goals as goal

pub returns : goal.returns
returns c = record { bases = load_above; load = load_bounded }
