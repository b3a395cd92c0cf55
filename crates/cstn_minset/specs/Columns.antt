-- Records with the marks of their labels side by side.
use Rattle.std.specs.Prelude.{ℕ, ◌≡◌, ◌<◌, ◌≤◌, ◌↔◌, true, List, length, Option, None, Some, slice_get}
use Rattle.cstn_label.specs.declared.marks.Mark.{Mark}
use Rattle.cstn_label.specs.declared.marks.Mark.TheVariants.{Absent}
use Rattle.cstn_label.specs.declared.labels.Label.{Label}
use Rattle.cstn_label.specs.Labels.{IsWithin}
use Rattle.cstn_label.specs.Words.{has_bit}
use Rattle.cstn_label.specs.Read.{marks}
use Rattle.cstn_minset.specs.declared.columns.Record.{Record}
use Rattle.cstn_minset.specs.Sheets.{Marks, mark_in}

-- what contracts see of columns: the records
pub record ColumnsParts : Type 0 where
  pub items : List Record

-- the mark of a record on p; where there is no record it is absent
abbrev pub mark_on : Option Record → ℕ → Mark
mark_on None p = Absent
mark_on (Some r) p = marks r.label p

-- the sheet has the marks of the records, and the labels of these are within `used`
pub record AreColumns (records : List Record) (sheet : Marks) (used : Label) : Type 0 where
  pub few : length records ≤ 64
  pub told : (p i : ℕ) → p < 52 → mark_in sheet p i ≡ mark_on (slice_get records i) p
  pub within : (i : ℕ) (r : Record) → slice_get records i ≡ Some r → IsWithin (marks r.label) (marks used)

-- exactly the bits of the places of the records of a kind are set
abbrev pub AreThose : (Record → Type 0) → List Record → ℕ → Type 0
AreThose Kind records word = (i : ℕ) → (has_bit word i ≡ true ↔ ((r : Record) × (slice_get records i ≡ Some r) × Kind r))
