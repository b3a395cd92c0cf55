-- Minimal sets of bounds, each bound in a slot with its birth.
use Rattle.std.specs.Prelude.{◌≡◌, ◌≢◌, ◌⊎◌, ℕ, suc, ◌+◌, ◌<◌, ◌≤◌, ◌^◌, ◌≤ℤ◌, ◌<ℤ◌, ℤ, IfSome, List, [], ◌∷◌, length, Option, None, Some, slice_index_or, MatchOption, option_map, All, sum_by, slice_get, ◌==◌, if◌then◌else◌}
use Rattle.std.specs.List.{Contains}
use Rattle.cstn_label.specs.declared.bounds.Bound.{Bound}
use Rattle.cstn_label.specs.Bounds.{Dominates}
use Rattle.cstn_label.specs.declared.props.Prop.{Prop}
use Rattle.cstn_label.specs.Labels.{IsMarked, IsWithin, Label as TheLabel}
use Rattle.cstn_label.specs.Read.{marks, the_bound}
use Rattle.cstn_pool.specs.declared.slot_id.SlotId.{SlotId}
use Rattle.cstn_minset.specs.declared.columns.Record.{Record}
use Rattle.cstn_minset.specs.declared.page.Page.{Page}
use Rattle.cstn_minset.specs.Pages.{Paged, held_records}

-- what each slot holds: nothing, or a birth and a bound
abbrev pub Entries : Type 0
Entries = List (Option (ℕ × Bound))

-- what contracts see of a minimal set: the number of time-points, and the slots
pub record Places : Type 0 where
  pub nodes : ℕ
  pub table : Entries

-- what a slot holds
abbrev pub entry_at : Entries → ℕ → Option (ℕ × Bound)
entry_at table slot = slice_index_or table slot None

-- the slot holds the entry
abbrev pub IsPlaced : Entries → ℕ → ℕ × Bound → Type 0
IsPlaced table slot entry = entry_at table slot ≡ Some entry

-- a bound is placed under the id
abbrev pub IsThere : Entries → SlotId → Type 0
IsThere table id = (bound : Bound) × IsPlaced table id.slot (id.birth, bound)

-- the first bound dominates the second
abbrev pub IsBoundOver : Bound → Bound → Type 0
IsBoundOver a b = Dominates (the_bound a) (the_bound b)

-- some entry dominates the bound
abbrev pub IsCoveredInSet : Entries → Bound → Type 0
IsCoveredInSet table b = (slot : ℕ) × (entry : ℕ × Bound) × IsPlaced table slot entry × IsBoundOver entry.1 b

-- exactly the entries stay that the bound doesn't dominate, each in its slot
pub record IsCleared (b : Bound) (old new : Entries) : Type 0 where
  pub size : length new ≡ length old
  pub was : (slot : ℕ) (entry : ℕ × Bound) → IsPlaced new slot entry → IsPlaced old slot entry
  pub none_under : (slot : ℕ) (entry : ℕ × Bound) → IsPlaced new slot entry → ¬ IsBoundOver b entry.1
  pub kept : (slot : ℕ) (entry : ℕ × Bound) → IsPlaced old slot entry → ¬ IsBoundOver b entry.1 → IsPlaced new slot entry

-- each birth of the table is below this one
abbrev pub AllBornBefore : Entries → ℕ → Type 0
AllBornBefore table birth = (slot : ℕ) (entry : ℕ × Bound) → IsPlaced table slot entry → entry.0 < birth

-- the bound is at the time-point
abbrev pub IsAt : ℕ → Bound → Type 0
IsAt node b = b.node.0 ≡ node

-- the bound's label marks the proposition
abbrev pub IsMarking : ℕ → Bound → Type 0
IsMarking p b = IsMarked (marks b.label) p

-- the slot holds, of the bounds of a kind, the one with the least birth from `low` on
pub record IsLeastSlot (table : Entries) (Kind : Bound → Type 0) (low slot birth : ℕ) : Type 0 where
  pub bound : Bound
  pub there : IsPlaced table slot (birth, bound)
  pub kind : Kind bound
  pub above : low ≤ birth
  pub least : (u : ℕ) (e : ℕ × Bound) → IsPlaced table u e → Kind e.1 → (e.0 < low) ⊎ (birth ≤ e.0)

-- all bounds of a kind have births below `low`
abbrev pub IsNone : Entries → (Bound → Type 0) → ℕ → Type 0
IsNone table Kind low = (u : ℕ) (e : ℕ × Bound) → IsPlaced table u e → Kind e.1 → e.0 < low

-- the answer is the id of the bound of a kind with the least birth from `low` on, and none only where there is none
abbrev pub IsEarliestOfKind : Entries → (Bound → Type 0) → ℕ → Option SlotId → Type 0
IsEarliestOfKind table Kind low answer = MatchOption answer (IsNone table Kind low) (λ id. IsLeastSlot table Kind low id.slot id.birth)

-- the ids of the bounds of a kind with births from `low` on, each the first after the one before, up to the last
abbrev pub IsWalkOfSlots : Entries → (Bound → Type 0) → ℕ → List SlotId → Type 0
IsWalkOfSlots table Kind low [] = IsEarliestOfKind table Kind low None
IsWalkOfSlots table Kind low (id ∷ ids) = IsEarliestOfKind table Kind low (Some id) × IsWalkOfSlots table Kind (id.birth + 1) ids

-- the answer is the slot of the bound of a kind with the least birth from `low` on, and none only where there is none
abbrev pub IsFirstSlot : Entries → (Bound → Type 0) → ℕ → Option ℕ → Type 0
IsFirstSlot table Kind low answer = MatchOption answer (IsNone table Kind low) (λ slot. (birth : ℕ) × IsLeastSlot table Kind low slot birth)

-- the birth that stands for none
abbrev pub no_birth : ℕ
no_birth = 18446744073709551615

-- the birth of a slot
abbrev pub birth_at : List ℕ → ℕ → ℕ
birth_at births slot = slice_index_or births slot no_birth

-- no entry dominates another, no two have the same birth, and each is at a time-point of the set
pub record IsMinimal (nodes : ℕ) (table : Entries) : Type 0 where
  pub minimal : (s t : ℕ) (e f : ℕ × Bound) → IsPlaced table s e → IsPlaced table t f → s ≢ t → ¬ IsBoundOver e.1 f.1
  pub apart : (s t : ℕ) (e f : ℕ × Bound) → IsPlaced table s e → IsPlaced table t f → e.0 ≡ f.0 → s ≡ t
  pub in_range : (s : ℕ) (e : ℕ × Bound) → IsPlaced table s e → (e.1.node.0 < nodes) × (e.0 < 2 ^ 64)

-- the record of a bound in a slot, with its time-point
abbrev pub record_of : ℕ → Bound → ℕ × Record
record_of slot b = (b.node.0, record { label = b.label; least = b.least; slot = slot })

-- the records of all bounds, from the slot n on
abbrev pub records_from : ℕ → Entries → List (ℕ × Record)
records_from n [] = []
records_from n (None ∷ table) = records_from (suc n) table
records_from n (Some entry ∷ table) = record_of n entry.1 ∷ records_from (suc n) table

-- the record is that of the bound in its slot
abbrev pub HasItsRecord : Entries → ℕ × Record → Type 0
HasItsRecord table x = (birth : ℕ) × (b : Bound) × IsPlaced table x.1.slot (birth, b) × (record_of x.1.slot b ≡ x)

-- the bound of a record, with its time-point
abbrev pub bound_of : ℕ × Record → Bound
bound_of x = record { node = record { 0 = x.0 }; least = x.1.least; label = x.1.label }

-- the bound of the first record of a slot
abbrev pub recorded : ℕ → List (ℕ × Record) → Option Bound
recorded slot [] = None
recorded slot (x ∷ records) = if x.1.slot == slot then Some (bound_of x) else recorded slot records

-- what the slots from n on hold: the bound of each one's record, under its birth
abbrev pub entries_from : List (ℕ × Record) → ℕ → List ℕ → Entries
entries_from records n [] = []
entries_from records n (birth ∷ births) = option_map (λ b. (birth, b)) (recorded n records) ∷ entries_from records (suc n) births

-- what each slot holds
abbrev pub entries_of : List ℕ → Paged → Entries
entries_of births rows = entries_from (held_records rows.pages) 0 births

-- the record is that of a bound that dominates this one, where both are of one time-point
abbrev pub IsRecordOver : Bound → Record → Type 0
IsRecordOver b r = (b.least ≤ℤ r.least) × IsWithin (marks r.label) (marks b.label)

-- the record is that of a bound that this one dominates, where both are of one time-point
abbrev pub IsRecordUnder : Bound → Record → Type 0
IsRecordUnder b r = (r.least ≤ℤ b.least) × IsWithin (marks b.label) (marks r.label)

-- some entry at the time-point, whose label is within this one, has this least value
abbrev pub SetHasLeast : Entries → ℕ → TheLabel → ℤ → Type 0
SetHasLeast table node label least =
    (slot : ℕ) × (entry : ℕ × Bound) × IsPlaced table slot entry × IsAt node entry.1 × IsWithin (marks entry.1.label) label × (entry.1.least ≡ least)

-- the bound is at the time-point, its least value is above the floor, and its label marks the proposition, if one is given
abbrev pub IsSoughtAbove : ℕ → ℤ → Option Prop → Bound → Type 0
IsSoughtAbove node floor marking b = IsAt node b × (floor <ℤ b.least) × IfSome marking (λ p. IsMarking p.index b)

-- the record is that of such a bound, where it is one of the time-point
abbrev pub IsRecordAbove : ℤ → Option Prop → Record → Type 0
IsRecordAbove floor marking r = (floor <ℤ r.least) × IfSome marking (λ p. IsMarked (marks r.label) p.index)

-- the record has this least value, and its label is within the other
abbrev pub IsRecordOf : TheLabel → ℤ → Record → Type 0
IsRecordOf label least r = (r.least ≡ least) × IsWithin (marks r.label) label

-- the record lies at the place i of page k, which is one of the row
abbrev pub IsRecordAt : List Page → ℕ → ℕ → ℕ → Record → Type 0
IsRecordAt pages h k i r = (page : Page) × (slice_get pages k ≡ Some page) × (page.head ≡ h) × (slice_get page.records.items i ≡ Some r)

-- no record of the row is of the kind, and none of the page
abbrev pub IsNoneOf : List Page → ℕ → (Record → Type 0) → Type 0
IsNoneOf pages h Kind = (k i : ℕ) (r : Record) → IsRecordAt pages h k i r → ¬ Kind r

abbrev pub IsNoneOn : Page → (Record → Type 0) → Type 0
IsNoneOn page Kind = (i : ℕ) (r : Record) → slice_get page.records.items i ≡ Some r → ¬ Kind r

-- no record of any page is of the slot
abbrev pub IsNoneInSlot : List Page → ℕ → Type 0
IsNoneInSlot pages slot = (h k i : ℕ) (r : Record) → IsRecordAt pages h k i r → ¬ (r.slot ≡ slot)

-- the bound is that of a record of the slot
pub record IsInSlot (pages : List Page) (slot : ℕ) (b : Bound) : Type 0 where
  pub head : ℕ
  pub page : ℕ
  pub place : ℕ
  pub record_is : Record
  pub there : IsRecordAt pages head page place record_is
  pub slot_is : record_is.slot ≡ slot
  pub bound_is : b ≡ bound_of (head, record_is)

-- the slots are those of the records that are sought above the floor; there are no more of them than records
pub record AreSlotsOf (records : List Record) (floor : ℤ) (marking : Option Prop) (slots : List ℕ) : Type 0 where
  pub all : (i : ℕ) (r : Record) → slice_get records i ≡ Some r → IsRecordAbove floor marking r → Contains slots r.slot
  pub only : All (λ s. (i : ℕ) × (r : Record) × (slice_get records i ≡ Some r) × IsRecordAbove floor marking r × (r.slot ≡ s)) slots
  pub few : length slots ≤ length records

-- a minimal set whose rows have exactly the records of its bounds
pub record IsKeptSet (rows : Paged) (nodes : ℕ) (table : Entries) : Type 0 where
  pub heads : rows.heads ≡ nodes
  pub room : rows.capacity ≡ length table
  pub listed : All (HasItsRecord table) (held_records rows.pages)
  pub same : (f : ℕ × Record → ℕ) → sum_by f (held_records rows.pages) ≡ sum_by f (records_from 0 table)
  pub minimal : IsMinimal nodes table

-- each slot has the birth of its entry, and none where it holds nothing
pub record AreBirths (births : List ℕ) (table : Entries) : Type 0 where
  pub size : length births ≡ length table
  pub born : (slot : ℕ) (entry : ℕ × Bound) → IsPlaced table slot entry → birth_at births slot ≡ entry.0
  pub unborn : (slot : ℕ) → entry_at table slot ≡ None → birth_at births slot ≡ no_birth

-- the rows and the births are those of the table
abbrev pub IsStored : List ℕ → Paged → ℕ → Entries → Type 0
IsStored births rows nodes table = IsKeptSet rows nodes table × AreBirths births table
