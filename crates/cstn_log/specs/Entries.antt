-- Lists of entries.
use Rattle.std.specs.Prelude.{◌≡◌, ℕ, ℤ, zero, suc, ◌<◌, ◌≤◌, List, [], ◌∷◌, ◌++◌, map, Some, nat_lt, slice_get, if◌then◌else◌}
use Rattle.cstn_label.specs.declared.bounds.Bound.{Bound}
use Rattle.cstn_label.specs.Labels.{Label, IsWithin}
use Rattle.cstn_label.specs.Read.{marks}
use Rattle.cstn_net.specs.Networks.{Network, count}
use Rattle.cstn_rules.specs.declared.entries.Entry.{Entry}
use Rattle.cstn_rules.specs.declared.entries.Why.TheVariants.{Base}
use Rattle.cstn_rules.specs.Rules.{base}
use Rattle.cstn_rules.specs.Derivations.{Entry as TheEntry}
use Rattle.cstn_rules.specs.Read.{the_entry}
use Rattle.cstn_pool.specs.declared.slot_id.SlotId.{SlotId}
use Rattle.cstn_minset.specs.Sets.{IsBoundOver}

-- what contracts see of a log: its entries with their ids in the pool, how many births the pool has given, how many entries
-- there may be, the number of time-points, and the places on its agenda
pub record State : Type 0 where
  pub entries : List Entry
  pub ids : List SlotId
  pub births : ℕ
  pub cap : ℕ
  pub nodes : ℕ
  pub agenda : List (List ℕ)

-- one of the ids is this one
abbrev pub HasId : List SlotId → SlotId → Type 0
HasId ids id = (k : ℕ) × (slice_get ids k ≡ Some id)

-- each of the ids has this birth or a later one
abbrev pub AreBornFrom : ℕ → List SlotId → Type 0
AreBornFrom birth ids = (k : ℕ) (id : SlotId) → slice_get ids k ≡ Some id → birth ≤ id.birth

-- the bounds and rules of entries
abbrev pub the_entries : List Entry → List TheEntry
the_entries entries = map the_entry entries

-- the entry at the place has this bound
pub record IsBoundAt (entries : List Entry) (k : ℕ) (b : Bound) : Type 0 where
  pub entry : Entry
  pub there : slice_get entries k ≡ Some entry
  pub is : entry.bound ≡ b

-- the entry at the place dominates the bound
abbrev pub IsDominator : List Entry → ℕ → Bound → Type 0
IsDominator entries k b = (over : Bound) × IsBoundAt entries k over × IsBoundOver over b

-- some entry dominates the bound
abbrev pub IsCoveredBy : List Entry → Bound → Type 0
IsCoveredBy entries b = (k : ℕ) × (e : Entry) × (slice_get entries k ≡ Some e) × IsBoundOver e.bound b

-- some entry at the time-point, whose label is within this one, has this least value
abbrev pub HasLeast : List Entry → ℕ → Label → ℤ → Type 0
HasLeast entries x label least = (k : ℕ) × (e : Entry) × (slice_get entries k ≡ Some e) × (e.bound.node.0 ≡ x) × IsWithin (marks e.bound.label) label
    × (e.bound.least ≡ least)

-- an entry is live while no later one dominates it
pub record IsLive (entries : List Entry) (k : ℕ) : Type 0 where
  pub none_over : (j : ℕ) (e f : Entry) → k < j → slice_get entries k ≡ Some e → slice_get entries j ≡ Some f → ¬ IsBoundOver f.bound e.bound

-- no entry is dominated by an earlier one
pub record AllNew (entries : List Entry) : Type 0 where
  pub none_over : (j k : ℕ) (e f : Entry) → j < k → slice_get entries j ≡ Some e → slice_get entries k ≡ Some f → ¬ IsBoundOver e.bound f.bound

-- the base bounds of the first n time-points, in order
abbrev pub bases : ℕ → List TheEntry
bases zero = []
bases (suc n) = bases n ++ record { bound = base n; why = Base } ∷ []

-- the list that a log of at most `cap` entries starts with: the base bounds, or nothing where they are too many
abbrev pub first_entries : Network → ℕ → List TheEntry
first_entries net cap = if nat_lt cap (count net) then [] else bases (count net)
