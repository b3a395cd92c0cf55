-- What `check` tells.
use Rattle.std.specs.Prelude.{◌<◌, ℕ, List}
use Rattle.cstn_lift.specs.Lowered.{lowered}
use Rattle.cstn_check.specs.Growth.{load_of}
use Rattle.cstn_headline.specs.Verdicts.{IsLabelledNo}
use Rattle.cstn_top.specs.Verdicts.{IsLabelledYes}
use Rattle.cstn_lift.specs.Labelled.{Labelled}
use Rattle.cstn_headline.specs.Accepted.{IsNoText}
use Rattle.cstn_headline.specs.Telling.{Telling, by_verdict}

-- the network has a strategy; or it has none, and a replay accepts the text; or the log of the network that it is lowered to has more than
-- `cap` entries
abbrev pub check_telling : ℕ → List ℕ → List (List ℕ) → Labelled → Telling
check_telling cap text names m = by_verdict (IsLabelledYes cap m) (IsLabelledNo cap m × IsNoText names (lowered m) text) (cap < load_of (lowered m))
