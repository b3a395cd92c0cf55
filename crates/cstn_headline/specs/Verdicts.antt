-- What verdicts rest on.
use Rattle.std.specs.Prelude.{◌≤◌, ℕ}
use Rattle.cstn_net.specs.Networks.{Network}
use Rattle.cstn_lift.specs.Labelled.{Labelled}
use Rattle.cstn_lift.specs.Lowered.{lowered}
use Rattle.cstn_lift.specs.Strategies.{IsLabelledConsistent}
use Rattle.cstn_rules.specs.Derivations.{IsRefutation}
use Rattle.cstn_log.specs.Cuts.{last_with_ancestors}
use Rattle.cstn_check.specs.Growth.{log_of, load_of, live_bounds}
use Rattle.cstn_closed.specs.Faults.{IsFaultless}

-- the labelled network has no labelled strategy, and the log of the network that it is lowered to has at most `cap` entries
abbrev pub IsLabelledNo : ℕ → Labelled → Type 0
IsLabelledNo cap m = (IsLabelledConsistent m → ⊥) × (load_of (lowered m) ≤ cap)

-- the bounds that a yes rests on have no fault
abbrev pub HasListedBounds : Network → Type 0
HasListedBounds net = IsFaultless net (live_bounds (log_of net))

-- the last entry of the network's log, with the entries that it follows from, is a refutation
abbrev pub IsRefutedByLog : Network → Type 0
IsRefutedByLog net = IsRefutation net (last_with_ancestors (log_of net))
