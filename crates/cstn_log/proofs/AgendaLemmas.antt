-- Sets of places, and the blocks that have them.
use Rattle.std.proofs.Common.{ℕ, ◌≡◌, inl, inr, ◌+◌, ◌*◌, ◌/◌, ◌%◌, ◌<◌, ◌≤◌, true, false, List, [], length, get_or, set, arith, sym, subst, ap, ◌∙◌, length-set, mod-lt}
use Rattle.std.proofs.lemmas.Bool.{cases_eq, cases_lt, false≢true}
use Rattle.std.specs.Prelude.{Some}
use Rattle.std.proofs.lemmas.List.{get_or-set_same, get_or-set_other, get_or_past}
use Rattle.std.proofs.lemmas.Option.{slice_get-get_or, get_or_from_slice_get}
use Rattle.cstn_log.specs.Blocks.{has_number}
use Rattle.cstn_log.specs.Agendas.{block_at, has_place, AreUsed}
use Rattle.cstn_log.proofs.BitLemmas.{none_in_zero}

-- a block of no words has no number
pub none_of_none : (k : ℕ) → has_number [] k ≡ false
none_of_none k = none_in_zero (k % 64)

-- past the blocks there is no number
pub none_past : (blocks : List (List ℕ)) (row k : ℕ) → length blocks ≤ row → has_number (block_at blocks row) k ≡ false
none_past blocks row k past = ap (λ b. has_number b k) (get_or_past blocks row [] past) ∙ none_of_none k

-- a block that has a number is one of the blocks
pub some_inside : (blocks : List (List ℕ)) (row k : ℕ) → has_number (block_at blocks row) k ≡ true → row < length blocks
some_inside blocks row k has = elim (cases_lt row (length blocks)) [
  | inl inside ↦ inside
  | inr past ↦ absurd (false≢true (sym (none_past blocks row k past) ∙ has))
]

-- the block in a row is replaced
module _ (blocks : List (List ℕ)) (row : ℕ) (block : List ℕ) (inside : row < length blocks) where
  pub block_here : block_at (set blocks row block) row ≡ block
  block_here = get_or-set_same blocks row block [] inside

  pub block_other : (r : ℕ) → (r ≡ row → ⊥) → block_at (set blocks row block) r ≡ block_at blocks r
  block_other r ne = get_or-set_other blocks row r block [] ne

  -- all places but one stay as they are, where all numbers of the block but one do
  pub places_stay : (n : ℕ) → ((m : ℕ) → (m ≡ n → ⊥) → has_number block m ≡ has_number (block_at blocks row) m) →
      (m : ℕ) → (m ≡ row * 4096 + n → ⊥) → has_place (set blocks row block) m ≡ has_place blocks m
  places_stay n others m ne = elim (cases_eq (m / 4096) row) [
    | inl at ↦
        ap (λ r. has_number (block_at (set blocks row block) r) (m % 4096)) at ∙ ap (λ b. has_number b (m % 4096)) block_here
        ∙ others (m % 4096) (λ same. ne (omega (arith, same, at)))
        ∙ ap (λ r. has_number (block_at blocks r) (m % 4096)) (sym at)
    | inr other ↦ ap (λ b. has_number b (m % 4096)) (block_other (m / 4096) other)
  ]

  -- the summary is kept, where it has the row exactly if the block has a number
  pub used_on : (used after : List ℕ) → AreUsed used blocks → ((r : ℕ) → (r ≡ row → ⊥) → has_number after r ≡ has_number used r) →
      (has_number after row ≡ true → (k : ℕ) × (has_number block k ≡ true)) →
      ((k : ℕ) → has_number after row ≡ false → has_number block k ≡ false) → AreUsed after (set blocks row block)
  used_on used after was others some none = record {
    few = omega (arith, was.few, length-set blocks row block);
    some = λ r on. elim (cases_eq r row) [
      | inl at ↦
          let got = some (subst (λ n. has_number after n ≡ true) at on) in
          (got.0, ap (λ n. has_number (block_at (set blocks row block) n) got.0) at ∙ ap (λ b. has_number b got.0) block_here ∙ got.1)
      | inr ne ↦
          let got = was.some r (sym (others r ne) ∙ on) in
          (got.0, ap (λ b. has_number b got.0) (block_other r ne) ∙ got.1)
    ];
    none = λ r k small off. elim (cases_eq r row) [
      | inl at ↦
          ap (λ n. has_number (block_at (set blocks row block) n) k) at ∙ ap (λ b. has_number b k) block_here
          ∙ none k (subst (λ n. has_number after n ≡ false) at off)
      | inr ne ↦ ap (λ b. has_number b k) (block_other r ne) ∙ was.none r k small (sym (others r ne) ∙ off)
    ];
  }

-- the place of a number in a row
pub place_of : (blocks : List (List ℕ)) (row n : ℕ) → n < 4096 → has_place blocks (row * 4096 + n) ≡ has_number (block_at blocks row) n
place_of blocks row n small =
    let at : (row * 4096 + n) / 4096 ≡ row = omega (arith, small) in
    let less : (row * 4096 + n) % 4096 ≡ n = omega (arith, small) in
    ap (λ r. has_number (block_at blocks r) ((row * 4096 + n) % 4096)) at ∙ ap (λ i. has_number (block_at blocks row) i) less

-- no place below that of the least number of the first used row is in the set
pub none_below : (used : List ℕ) (blocks : List (List ℕ)) (row n : ℕ) → AreUsed used blocks → n < 4096 →
    ((r : ℕ) → r < row → has_number used r ≡ false) → ((m : ℕ) → m < n → has_number (block_at blocks row) m ≡ false) →
    (m : ℕ) → m < row * 4096 + n → has_place blocks m ≡ false
none_below used blocks row n are small first least m below = elim (cases_lt (m / 4096) row) [
  | inl before ↦ are.none (m / 4096) (m % 4096) (mod-lt m (omega arith)) (first (m / 4096) before)
  | inr from ↦
      let at : m / 4096 ≡ row = omega (arith, from, below, small) in
      ap (λ r. has_number (block_at blocks r) (m % 4096)) at ∙ least (m % 4096) (omega (arith, at, below))
]

-- nothing is in a set of which no block is used
pub none_used : (used : List ℕ) (blocks : List (List ℕ)) → AreUsed used blocks → ((r : ℕ) → has_number used r ≡ false) → (m : ℕ) → has_place blocks m ≡ false
none_used used blocks are none m = are.none (m / 4096) (m % 4096) (mod-lt m (omega arith)) (none (m / 4096))

-- what is read in a row is its block
pub block_read : (blocks : List (List ℕ)) (row : ℕ) (read : List ℕ) → row < length blocks → read ≡ get_or blocks row read → block_at blocks row ≡ read
block_read blocks row read inside is =
    get_or_from_slice_get blocks row read [] (slice_get-get_or blocks row read inside ∙ ap Some (sym is))

-- a place is the number in its row
pub split_place : (k : ℕ) → k / 4096 * 4096 + k % 4096 ≡ k
split_place k = omega arith

-- what is read in a row that was replaced is the new block
pub block_reread : (blocks : List (List ℕ)) (row : ℕ) (block read : List ℕ) → row < length blocks → read ≡ get_or (set blocks row block) row read → read ≡ block
block_reread blocks row block read inside is = is ∙ get_or-set_same blocks row block read inside
