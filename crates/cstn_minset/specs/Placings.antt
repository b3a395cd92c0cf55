-- Bounds that are placed one after the other.
use Rattle.std.specs.Prelude.{◌≡◌, ℕ, ◌<◌, List, [], ◌∷◌, Some, slice_get, slice_set}
use Rattle.cstn_label.specs.declared.bounds.Bound.{Bound}
use Rattle.cstn_pool.specs.declared.slot_id.SlotId.{SlotId}
use Rattle.cstn_minset.specs.Sets.{Entries, IsBoundOver, IsCleared}

-- a bound with the id under which it is placed
pub record Placing : Type 0 where
  pub id : SlotId
  pub bound : Bound

-- the table after a bound is placed: those that it dominates are gone, and it is in its slot
abbrev pub AfterPlacing : Placing → Entries → Entries → Type 0
AfterPlacing p before after =
    (cleared : Entries) × IsCleared p.bound before cleared × (after ≡ slice_set cleared p.id.slot (Some (p.id.birth, p.bound)))

-- the table after bounds are placed in order
abbrev pub AfterPlacings : List Placing → Entries → Entries → Type 0
AfterPlacings [] before after = before ≡ after
AfterPlacings (p ∷ ps) before after = (between : Entries) × AfterPlacing p before between × AfterPlacings ps between after

-- each is placed in a slot of its own, of a table of this size
pub record HaveOwnSlots (size : ℕ) (ps : List Placing) : Type 0 where
  pub inside : (k : ℕ) (p : Placing) → slice_get ps k ≡ Some p → p.id.slot < size
  pub apart : (j k : ℕ) (p q : Placing) → slice_get ps j ≡ Some p → slice_get ps k ≡ Some q → p.id.slot ≡ q.id.slot → j ≡ k

-- the bound is at the place, and no later one dominates it
pub record IsLastOver (ps : List Placing) (k : ℕ) (p : Placing) : Type 0 where
  pub there : slice_get ps k ≡ Some p
  pub none_over : (j : ℕ) (q : Placing) → k < j → slice_get ps j ≡ Some q → ¬ IsBoundOver q.bound p.bound
