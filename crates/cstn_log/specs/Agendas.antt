-- Sets of places as blocks of 4,096.
use Rattle.std.specs.Prelude.{ℕ, ◌≡◌, ◌<◌, ◌≤◌, ◌/◌, ◌%◌, Bool, true, false, List, [], length, slice_index_or}
use Rattle.cstn_log.specs.Blocks.{has_number}

-- the words of a block, and none past the last block
abbrev pub block_at : List (List ℕ) → ℕ → List ℕ
block_at blocks row = slice_index_or blocks row []

-- the set has the place
abbrev pub has_place : List (List ℕ) → ℕ → Bool
has_place blocks k = has_number (block_at blocks (k / 4096)) (k % 4096)

-- `used` has a number for each block that has one
pub record AreUsed (used : List ℕ) (blocks : List (List ℕ)) : Type 0 where
  pub few : length blocks ≤ 4096
  pub some : (row : ℕ) → has_number used row ≡ true → (k : ℕ) × (has_number (block_at blocks row) k ≡ true)
  pub none : (row k : ℕ) → k < 4096 → has_number used row ≡ false → has_number (block_at blocks row) k ≡ false
