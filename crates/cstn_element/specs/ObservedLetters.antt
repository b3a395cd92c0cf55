-- Observed letters.
use Rattle.std.specs.Prelude.{ℕ, List, [], ◌∷◌, Option, Some, None}
use Rattle.cstn_label.specs.Letters.{prop_of}

abbrev pub maybe_prop : Option ℕ → Option (Option ℕ)
maybe_prop (Some p) = Some (Some p)
maybe_prop None = None

-- the proposition that a text of one letter names; an empty text names none, and any other isn't of the form
abbrev pub observed_in : List ℕ → Option (Option ℕ)
observed_in [] = Some None
observed_in (b ∷ []) = maybe_prop (prop_of b)
observed_in (b ∷ c ∷ bytes) = None
