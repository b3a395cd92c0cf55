-- What `sentences` tells.
use Rattle.std.specs.Prelude.{◌≡◌, ℕ, List}
use Rattle.cstn_lift.specs.Labelled.{Labelled}
use Rattle.cstn_sentences.specs.Sentences.{sentences}
use Rattle.cstn_headline.specs.Telling.{Telling, good_only}

-- the text is the network in sentences
abbrev pub sentences_telling : List ℕ → List (List ℕ) → Labelled → Telling
sentences_telling text names m = good_only (text ≡ sentences m names)
