-- What `closed` tells.
use Rattle.std.specs.Prelude.{◌<◌, ℕ, List}
use Rattle.cstn_lift.specs.Lowered.{lowered}
use Rattle.cstn_check.specs.Growth.{load_of}
use Rattle.cstn_headline.specs.Verdicts.{IsLabelledNo, HasListedBounds}
use Rattle.cstn_top.specs.Verdicts.{IsLabelledYes}
use Rattle.cstn_lift.specs.Labelled.{Labelled}
use Rattle.cstn_headline.specs.Accepted.{IsYesText, IsNoText}
use Rattle.cstn_headline.specs.Telling.{Telling, by_verdict}

-- the network has a strategy, its bounds have no fault, and a check of bounds accepts the text; or the rest as with `check`
abbrev pub closed_telling : ℕ → List ℕ → List (List ℕ) → Labelled → Telling
closed_telling cap text names m =
    by_verdict (IsLabelledYes cap m × HasListedBounds (lowered m) × IsYesText names (lowered m) text) (IsLabelledNo cap m × IsNoText names (lowered m) text)
    (cap < load_of (lowered m))
