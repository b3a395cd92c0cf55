-- What `tight` tells.
use Rattle.std.specs.Prelude.{◌≡◌, ◌⊎◌, ◌<◌, ◌-◌, ◌++◌, ℕ, List, [], codes, decimal}
use Rattle.cstn_net.specs.Networks.{Network}
use Rattle.cstn_lift.specs.Lowered.{lowered}
use Rattle.cstn_check.specs.Growth.{load_of}
use Rattle.cstn_tight.specs.Deadlines.{at_deadline, IsLeastDeadline, least_deadline}
use Rattle.cstn_reply.specs.Texts.{line}
use Rattle.cstn_headline.specs.Verdicts.{HasListedBounds, IsRefutedByLog, IsLabelledNo}
use Rattle.cstn_top.specs.Verdicts.{IsLabelledYes}
use Rattle.cstn_lift.specs.Labelled.{Labelled}
use Rattle.cstn_headline.specs.Accepted.{IsYesText, IsNoText}
use Rattle.cstn_headline.specs.Telling.{Telling, by_verdict}

-- h is the least deadline of the network: the bounds at h have no fault, and unless h is 0, the log one tick below has a
-- refutation
pub record IsTight (net : Network) (h : ℕ) : Type 0 where
  pub least : IsLeastDeadline net h
  pub bounds : HasListedBounds (at_deadline net h)
  pub refuted : (h ≡ 0) ⊎ IsRefutedByLog (at_deadline net (h - 1))

-- a least deadline, a text of bounds that is accepted at it, and a text that refutes the network one tick below, unless the
-- deadline is 0
pub record IsTightText (names : List (List ℕ)) (net : Network) (text : List ℕ) : Type 0 where
  pub deadline : ℕ
  pub at : List ℕ
  pub below : List ℕ
  pub parts : text ≡ line (codes "least " ++ decimal deadline) ++ at ++ below
  pub least : IsLeastDeadline net deadline
  pub yes_at : IsYesText names (at_deadline net deadline) at
  pub no_below : ((deadline ≡ 0) × (below ≡ [])) ⊎ IsNoText names (at_deadline net (deadline - 1)) below

-- the network has a strategy, and the deadline is the least; or it has none; or its log has more than `cap` entries
abbrev pub tight_telling : ℕ → List ℕ → List (List ℕ) → Labelled → Telling
tight_telling cap text names m =
    by_verdict (IsLabelledYes cap m × IsTight (lowered m) (least_deadline (lowered m)) × IsTightText names (lowered m) text)
    (IsLabelledNo cap m × IsRefutedByLog (lowered m) × IsNoText names (lowered m) text) (cap < load_of (lowered m))
