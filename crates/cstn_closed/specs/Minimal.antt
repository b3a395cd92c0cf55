-- The bounds of a list that no other dominates, and the places of those that no earlier one dominates.
use Rattle.std.specs.Prelude.{ℕ, ◌≡◌, ◌<◌, ◌≤◌, ◌↔◌, ◌⊎◌, List, [], Some, length, map, slice_get, slice_index_or, Vec}
use Rattle.std.specs.declared.alloc.Global.{Global}
use Rattle.cstn_label.specs.declared.bounds.Bound.{Bound as Declared}
use Rattle.cstn_label.specs.Bounds.{Bound, Dominates}
use Rattle.cstn_label.specs.Read.{the_bound}
use Rattle.cstn_rules.specs.Closed.{IsCovered}

-- the bounds that a vector holds
abbrev pub held_bounds : Vec Declared Global → List Bound
held_bounds v = map the_bound v.items

-- the bounds that are kept at the time-point x
abbrev pub kept_bounds_at : List (Vec Declared Global) → ℕ → List Bound
kept_bounds_at lists x = slice_index_or (map held_bounds lists) x []

-- the list covers exactly what the bounds cover that are kept
abbrev pub AreKept : List Bound → List (Vec Declared Global) → Type 0
AreKept bounds lists = (r : Bound) → (IsCovered (kept_bounds_at lists r.node) r ↔ IsCovered bounds r)

-- the new list covers what the old one covers, and what b dominates
abbrev pub CoversToo : Bound → List Bound → List Bound → Type 0
CoversToo b old new = (r : Bound) → (IsCovered new r ↔ (IsCovered old r ⊎ Dominates b r))

-- once b is kept too, what b dominates is covered, and what was covered before
abbrev pub IsPut : Bound → List (Vec Declared Global) → List (Vec Declared Global) → Type 0
IsPut b old new = (r : Bound) → (IsCovered (kept_bounds_at new r.node) r ↔ (IsCovered (kept_bounds_at old r.node) r ⊎ Dominates b r))

-- the bound b at the place i is dominated by one at a place of `places` that is not later
pub record IsFreshOver (bounds : List Bound) (places : List ℕ) (i : ℕ) (b : Bound) : Type 0 where
  pub nth : ℕ
  pub inside : nth < length places
  pub upto : slice_index_or places nth 0 ≤ i
  pub by : Bound
  pub there : slice_get bounds (slice_index_or places nth 0) ≡ Some by
  pub dominates : Dominates by b

-- the places are ascending ones of the list, and each bound of the list is dominated by one at such a place that is not later
pub record AreFresh (bounds : List Bound) (places : List ℕ) : Type 0 where
  pub inside : (n : ℕ) → n < length places → slice_index_or places n 0 < length bounds
  pub ascending : (m n : ℕ) → m < n → n < length places → slice_index_or places m 0 < slice_index_or places n 0
  pub over : (i : ℕ) (b : Bound) → slice_get bounds i ≡ Some b → IsFreshOver bounds places i b
