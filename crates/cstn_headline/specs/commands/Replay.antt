-- What `replay` tells.
use Rattle.std.specs.Prelude.{◌≤◌, ◌<◌, ℕ, List, length}
use Rattle.cstn_net.specs.Networks.{Network}
use Rattle.cstn_text.specs.Limits.{most_text}
use Rattle.cstn_lift.specs.Lowered.{lowered}
use Rattle.cstn_lift.specs.Strategies.{IsLabelledConsistent}
use Rattle.cstn_rules.specs.Derivations.{IsRefutation}
use Rattle.cstn_refute.specs.Texts.{RefutationTold, tells, wrong, refutation_told as told_by}
use Rattle.cstn_lift.specs.Labelled.{Labelled}
use Rattle.cstn_headline.specs.Telling.{Telling, by_check}

-- the text is one of steps, and they are a refutation of the network
abbrev pub IsRefutedBy : RefutationTold → Network → Type 0
IsRefutedBy (tells load steps) net = IsRefutation net steps
IsRefutedBy (wrong at) net = ⊥

-- the text is one of steps, and they are no refutation of the network
abbrev pub IsNoRefutation : RefutationTold → Network → Type 0
IsNoRefutation (tells load steps) net = IsRefutation net steps → ⊥
IsNoRefutation (wrong at) net = ⊥

-- the text has more than 1,476,395,008 bytes, or a line that is of no grammar
abbrev pub IsOffGrammar : List ℕ → RefutationTold → Type 0
IsOffGrammar text (tells load steps) = most_text < length text
IsOffGrammar text (wrong at) = Unit {0}

-- the steps of the text refute the network, which has no strategy; or they don't refute it; or the text is of no steps
abbrev pub replay_telling : List ℕ → List (List ℕ) → Labelled → Telling
replay_telling text names m =
    by_check ((length text ≤ most_text) × IsRefutedBy (told_by names text) (lowered m) × (IsLabelledConsistent m → ⊥))
    ((length text ≤ most_text) × IsNoRefutation (told_by names text) (lowered m)) (IsOffGrammar text (told_by names text))
