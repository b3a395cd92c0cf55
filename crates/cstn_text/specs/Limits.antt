-- The limits of texts.
use Rattle.std.specs.Prelude.{ℕ}

-- the most bytes of a text that is handed in
abbrev pub most_text : ℕ
most_text = 1476395008
