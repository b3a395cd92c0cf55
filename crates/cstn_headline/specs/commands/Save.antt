-- What `save` tells.
use Rattle.cstn_save.specs.Canonical.{canonical}
use Rattle.std.specs.Prelude.{◌≡◌, ℕ, List}
use Rattle.cstn_lift.specs.Labelled.{Labelled}
use Rattle.cstn_headline.specs.Telling.{Telling, good_only}

-- the text is the canonical document
abbrev pub save_telling : List ℕ → List (List ℕ) → Labelled → Telling
save_telling text names m = good_only (text ≡ canonical m names)
