-- The greatest of the least values in a list.
use Rattle.std.specs.Prelude.{ℕ, ◌≡◌, ◌<◌, pos, ◌≤ℤ◌, ◌<ℤ◌, List, Some, slice_get}
use Rattle.cstn_rules.specs.Derivations.{Entry}

-- some entry has this least value, and none a greater one
pub record IsGreatest (list : List Entry) (least : ℕ) : Type 0 where
  pub place : ℕ
  pub entry : Entry
  pub there : slice_get list place ≡ Some entry
  pub is : entry.bound.least ≡ pos least
  pub upto : (k : ℕ) (e : Entry) → slice_get list k ≡ Some e → e.bound.least ≤ℤ pos least

-- among the first n entries, the one at this place is the first with the greatest least value
pub record IsFirstGreatest (list : List Entry) (n place : ℕ) : Type 0 where
  pub entry : Entry
  pub there : slice_get list place ≡ Some entry
  pub upto : (k : ℕ) (e : Entry) → k < n → slice_get list k ≡ Some e → e.bound.least ≤ℤ entry.bound.least
  pub first : (k : ℕ) (e : Entry) → k < place → slice_get list k ≡ Some e → e.bound.least <ℤ entry.bound.least
