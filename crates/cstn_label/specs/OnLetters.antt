-- Labels whose propositions all have letters.
use Rattle.std.specs.Prelude.{ℕ, ◌≡◌, ◌≤◌}
use Rattle.cstn_label.specs.declared.marks.Mark.TheVariants.{Absent}
use Rattle.cstn_label.specs.Labels.{Label}

-- the label marks none but the 52 letters
abbrev pub IsOnLetters : Label → Type 0
IsOnLetters a = (p : ℕ) → 52 ≤ p → a p ≡ Absent
