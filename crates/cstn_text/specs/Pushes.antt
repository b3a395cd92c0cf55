-- Texts that grow.
use Rattle.std.specs.Prelude.{ℕ, ◌≡◌, ◌++◌, List}

-- the old text, and maybe some bytes more
abbrev pub IsLongerText : List ℕ → List ℕ → Type 0
IsLongerText old new = (more : List ℕ) × (new ≡ old ++ more)
