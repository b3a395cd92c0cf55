-- Passes over all records for the bound of a kind with the least birth.
use Rattle.std.specs.Prelude.{◌≡◌, ℕ, ◌≤◌, List, Option, None, Some, MatchOption, slice_get, nat_lt, if◌then◌else◌}
use Rattle.cstn_label.specs.declared.bounds.Bound.{Bound}
use Rattle.cstn_pool.specs.declared.slot_id.SlotId.{SlotId}
use Rattle.cstn_minset.specs.declared.columns.Record.{Record}
use Rattle.cstn_minset.specs.declared.page.Page.{Page}
use Rattle.cstn_minset.specs.declared.passes.Sought.{Sought}
use Rattle.cstn_minset.specs.declared.passes.Sought.TheVariants.{At, Marking}
use Rattle.cstn_minset.specs.Sets.{IsAt, IsMarking, bound_of, birth_at}

-- the kind of bounds that is looked for
abbrev pub sought_kind : Sought → Bound → Type 0
sought_kind (At node) = IsAt node.0
sought_kind (Marking p) = IsMarking p.index

-- the record of row h is of the slot, which has the birth; it is `low` or later, and the record's bound is of the kind
pub record IsCandidate (births : List ℕ) (Kind : Bound → Type 0) (low h : ℕ) (r : Record) (slot birth : ℕ) : Type 0 where
  pub slot_is : r.slot ≡ slot
  pub birth_is : birth_at births slot ≡ birth
  pub kind : Kind (bound_of (h, r))
  pub above : low ≤ birth

-- the slot and the birth are those of a record of the page, and of one of all pages
abbrev pub IsOnPage : List ℕ → (Bound → Type 0) → ℕ → Page → ℕ → ℕ → Type 0
IsOnPage births Kind low page slot birth =
    (i : ℕ) × (r : Record) × (slice_get page.records.items i ≡ Some r) × IsCandidate births Kind low page.head r slot birth

abbrev pub IsOnPages : List ℕ → (Bound → Type 0) → ℕ → List Page → ℕ → ℕ → Type 0
IsOnPages births Kind low pages slot birth = (k : ℕ) × (page : Page) × (slice_get pages k ≡ Some page) × IsOnPage births Kind low page slot birth

-- the answer has the least birth of a group, and is none only where the group is empty
abbrev pub IsEarliestSlot : (ℕ → ℕ → Type 0) → Option SlotId → Type 0
IsEarliestSlot Group answer = MatchOption answer ((slot birth : ℕ) → ¬ Group slot birth)
    (λ id. Group id.slot id.birth × ((slot birth : ℕ) → Group slot birth → id.birth ≤ birth))

-- of two ids the one with the lower birth
abbrev pub earlier_slot : Option SlotId → Option SlotId → Option SlotId
earlier_slot None other = other
earlier_slot (Some id) None = Some id
earlier_slot (Some id) (Some other) = if nat_lt other.birth id.birth then Some other else Some id
