-- What `closedcheck` tells.
use Rattle.std.specs.Prelude.{ℕ, List, ◌≤◌, ◌<◌, length}
use Rattle.cstn_net.specs.Networks.{Network}
use Rattle.cstn_lift.specs.Lowered.{lowered}
use Rattle.cstn_lift.specs.Strategies.{IsLabelledConsistent}
use Rattle.cstn_rules.specs.Closed.{IsClosed}
use Rattle.cstn_closed.specs.Faults.{Fault, IsFirstFault, IsFaultless}
use Rattle.cstn_closed.specs.Texts.{ClosedTold, tells, wrong, closed_told as told_bounds}
use Rattle.cstn_text.specs.Limits.{most_text}
use Rattle.cstn_lift.specs.Labelled.{Labelled}
use Rattle.cstn_headline.specs.Telling.{Telling, by_check}

-- the text is one of bounds, which have no fault for the network, and the list of them is closed
abbrev pub AreClosed : ClosedTold → Network → Type 0
AreClosed (tells load bounds) net = IsFaultless net bounds × IsClosed net bounds
AreClosed (wrong at) net = ⊥

-- the text is one of bounds, and they have a fault for the network
abbrev pub AreFaulty : ClosedTold → Network → Type 0
AreFaulty (tells load bounds) net = (f : Fault) × IsFirstFault net bounds f
AreFaulty (wrong at) net = ⊥

-- the text has more than 1,476,395,008 bytes, or a line that is of no grammar
abbrev pub AreNoBounds : List ℕ → ClosedTold → Type 0
AreNoBounds text (tells load bounds) = most_text < length text
AreNoBounds text (wrong at) = Unit {0}

-- the bounds of the text are closed, and the network has a strategy; or they have a fault; or the text is of no bounds
abbrev pub closedcheck_telling : List ℕ → List (List ℕ) → Labelled → Telling
closedcheck_telling text names m =
    by_check ((length text ≤ most_text) × AreClosed (told_bounds names text) (lowered m) × IsLabelledConsistent m)
    ((length text ≤ most_text) × AreFaulty (told_bounds names text) (lowered m)) (AreNoBounds text (told_bounds names text))
