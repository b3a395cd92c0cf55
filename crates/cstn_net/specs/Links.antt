-- The constraints that end at a time-point, one after the other.
use Rattle.std.specs.Prelude.{ℕ, ◌≡◌, ◌<◌, ◌≤◌, ◌+◌, List, [], Option, Some, None, length, map, slice_index_or, drop, ◌==◌, Bool}
use Rattle.std.specs.List.{filter}
use Rattle.cstn_net.specs.declared.constraints.Constraint.{Constraint}
use Rattle.cstn_net.specs.declared.links.Chain.{Chain}

-- the time-point at which each constraint ends
abbrev pub ends : List Constraint → List ℕ
ends cs = map (λ c. c.to.0) cs

-- p is the least place from `low` on at which x stands
pub record IsPlaceOf (x low : ℕ) (xs : List ℕ) (p : ℕ) : Type 0 where
  pub later : low ≤ p
  pub inside : p < length xs
  pub here : slice_index_or xs p 0 ≡ x
  pub skipped : (k : ℕ) → low ≤ k → k < p → slice_index_or xs k 0 ≡ x → ⊥

-- the least place from `low` on at which x stands; none where it stands at no such place
abbrev pub IsNextPlace : ℕ → ℕ → List ℕ → Option ℕ → Type 0
IsNextPlace x low xs None = (k : ℕ) → low ≤ k → k < length xs → slice_index_or xs k 0 ≡ x → ⊥
IsNextPlace x low xs (Some p) = IsPlaceOf x low xs p

-- the constraint ends at x
abbrev pub ends_at : ℕ → Constraint → Bool
ends_at x c = c.to.0 == x

-- of the constraints that end at x, those from the place of a walk on; none where the walk has come to its end
abbrev pub left_to : ℕ → Option ℕ → List Constraint → List Constraint
left_to x None cs = []
left_to x (Some p) cs = filter (ends_at x) (drop p cs)

-- p is the last place at which x stands
pub record IsLastPlace (x : ℕ) (xs : List ℕ) (p : ℕ) : Type 0 where
  pub inside : p < length xs
  pub here : slice_index_or xs p 0 ≡ x
  pub after : (k : ℕ) → p < k → k < length xs → slice_index_or xs k 0 ≡ x → ⊥

-- the first and the last place at which x stands; none where it stands nowhere
abbrev pub StandsFromTo : ℕ → List ℕ → Option Chain → Type 0
StandsFromTo x xs None = IsNextPlace x 0 xs None
StandsFromTo x xs (Some c) = IsPlaceOf x 0 xs c.first × IsLastPlace x xs c.last

-- `chains` has the first and the last place of each time-point, and `nexts` has the next place of the same time-point for
-- each place
pub record AreLinked (xs : List ℕ) (chains : List (Option Chain)) (nexts : List (Option ℕ)) : Type 0 where
  pub long : length nexts ≡ length xs
  pub chained : (x : ℕ) → x < length chains → StandsFromTo x xs (slice_index_or chains x None)
  pub followed : (k : ℕ) → k < length xs → IsNextPlace (slice_index_or xs k 0) (k + 1) xs (slice_index_or nexts k None)
