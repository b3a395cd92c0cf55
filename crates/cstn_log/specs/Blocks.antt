-- Sets of numbers below 4,096 as bits of 64 words.
use Rattle.std.specs.Prelude.{ℕ, ◌≡◌, ◌<◌, ◌/◌, ◌%◌, Bool, true, false, List, length, slice_index_or}
use Rattle.cstn_label.specs.Words.{has_bit}

-- the set has the number
abbrev pub has_number : List ℕ → ℕ → Bool
has_number words k = has_bit (slice_index_or words (k / 64) 0) (k % 64)

-- there are 64 words, and `rows` has a bit for each that has one
pub record AreSummed (rows : ℕ) (words : List ℕ) : Type 0 where
  pub size : length words ≡ 64
  pub some : (r : ℕ) → r < 64 → has_bit rows r ≡ true → (i : ℕ) × (i < 64) × (has_bit (slice_index_or words r 0) i ≡ true)
  pub none : (r i : ℕ) → r < 64 → i < 64 → has_bit rows r ≡ false → has_bit (slice_index_or words r 0) i ≡ false
