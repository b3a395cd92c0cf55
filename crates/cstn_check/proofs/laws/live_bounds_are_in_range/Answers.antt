use Rattle.cstn_check.proofs.InRange.{live_in_range}
use Rattle.cstn_check.proofs.laws.live_bounds_are_in_range.Goals as goal

pub returns : goal.returns
returns c = record { ranged = live_in_range }
