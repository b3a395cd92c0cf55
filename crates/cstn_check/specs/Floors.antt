-- Least values up to which what a label tells is dominated.
use Rattle.std.specs.Prelude.{ℕ, ◌≡◌, ◌⊎◌, ℤ, List, pos}
use Rattle.cstn_label.specs.Labels.{Label}
use Rattle.cstn_rules.specs.declared.entries.Entry.{Entry}
use Rattle.cstn_log.specs.Entries.{HasLeast}

-- the value is 0, or the least value of an entry at the time-point whose label is within this one
abbrev pub IsFloor : List Entry → ℕ → Label → ℤ → Type 0
IsFloor entries x label floor = (floor ≡ pos 0) ⊎ HasLeast entries x label floor
