-- The places of a list at which a time-point stands.
use Rattle.std.specs.Prelude.{ℕ, ◌≡◌, ◌<◌, ◌≤◌, List, length, slice_index_or}

-- p is the first place from `low` on at which x stands, or the length of the list where x stands at none
pub record IsNextStanding (xs : List ℕ) (x low p : ℕ) : Type 0 where
  pub later : low ≤ p
  pub upto : p ≤ length xs
  pub here : p < length xs → slice_index_or xs p 0 ≡ x
  pub skipped : (k : ℕ) → low ≤ k → k < p → slice_index_or xs k 0 ≡ x → ⊥
