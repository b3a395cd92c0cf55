-- Verdicts on labelled networks.
use Rattle.std.specs.Prelude.{◌≤◌, ℕ}
use Rattle.cstn_lift.specs.Labelled.{Labelled}
use Rattle.cstn_lift.specs.Lowered.{lowered}
use Rattle.cstn_lift.specs.Strategies.{IsLabelledConsistent}
use Rattle.cstn_check.specs.Growth.{load_of}

-- the labelled network has a labelled strategy, and the log of the network that it is lowered to has at most `cap` entries
abbrev pub IsLabelledYes : ℕ → Labelled → Type 0
IsLabelledYes cap m = IsLabelledConsistent m × (load_of (lowered m) ≤ cap)
