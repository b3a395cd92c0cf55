-- The marks of labels side by side, as words.
use Rattle.std.specs.Prelude.{ℕ, ◌≡◌, ◌<◌, true, false, List, slice_index_or}
use Rattle.cstn_label.specs.declared.marks.Mark.{Mark}
use Rattle.cstn_label.specs.Labels.{Label, IsMarkWithin}
use Rattle.cstn_label.specs.Read.{mark_of}
use Rattle.cstn_label.specs.Words.{has_bit}

-- for each proposition the word of the labels that have it as a positive literal, and that of those that have it as a negative one
pub record Marks : Type 0 where
  pub positive : List ℕ
  pub negative : List ℕ

-- the mark of label i on p
abbrev pub mark_in : Marks → ℕ → ℕ → Mark
mark_in sheet p i = mark_of (has_bit (slice_index_or sheet.positive p 0) i) (has_bit (slice_index_or sheet.negative p 0) i)

-- each mark of label i is within the other label's, and each of the other's within that of label i
abbrev pub IsInsideLabel : Marks → ℕ → Label → Type 0
IsInsideLabel sheet i label = (p : ℕ) → p < 52 → IsMarkWithin (mark_in sheet p i) (label p)

abbrev pub IsOutside : Marks → ℕ → Label → Type 0
IsOutside sheet i label = (p : ℕ) → p < 52 → IsMarkWithin (label p) (mark_in sheet p i)

-- bit i is in none of the words of these numbers, and in all of them
abbrev pub IsInNone : List ℕ → ℕ → ℕ → Type 0
IsInNone words numbers i = (p : ℕ) → has_bit numbers p ≡ true → has_bit (slice_index_or words p 0) i ≡ false

abbrev pub IsInAll : List ℕ → ℕ → ℕ → Type 0
IsInAll words numbers i = (p : ℕ) → has_bit numbers p ≡ true → has_bit (slice_index_or words p 0) i ≡ true
