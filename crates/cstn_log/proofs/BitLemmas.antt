-- Words as sets of their bits.
use Rattle.std.proofs.Common.{ℕ, ◌≡◌, inl, inr, ◌+◌, ◌-◌, ◌*◌, ◌/◌, ◌%◌, ◌^◌, ◌<◌, ◌≤◌, true, false, eqb, arith, sym, subst, ap, ◌∙◌, bit_and, bit_or, w64}
use Rattle.std.specs.Int.{bit_at, bit_not, trailing_zeros}
use Rattle.std.proofs.Math.Nat.{div-le_self, div-div-eq-div-mul}
use Rattle.std.proofs.lemmas.Nat.{pow-add}
use Rattle.std.proofs.lemmas.Bool.{cases_lt, eq-eqb}
use Rattle.std.proofs.lemmas.Nat.Bits.{bit_at-zero, bit_at_above, bit_at-trailing_zeros, bit_at_set_same, bit_at_set_other, bit_at_clear_same, bit_at_clear_other}
use Rattle.cstn_label.specs.Words.{has_bit}

pub none_in_zero : (i : ℕ) → has_bit 0 i ≡ false
none_in_zero i = ap (λ n. eqb n 1) (bit_at-zero i)

-- `word | 1 << i` has bit i, and the other bits of the word
pub set_here : (word i : ℕ) → i < 64 → has_bit (bit_or word (1 * 2 ^ i % 2 ^ 64)) i ≡ true
set_here word i small = ap (λ b. eqb b 1) (bit_at_set_same w64 word i small)

pub set_others : (word i k : ℕ) → i < 64 → (k ≡ i → ⊥) → has_bit (bit_or word (1 * 2 ^ i % 2 ^ 64)) k ≡ has_bit word k
set_others word i k small other = ap (λ b. eqb b 1) (bit_at_set_other w64 word i small k other)

-- `word & !(1 << i)` has no bit i, and the other bits of the word
pub clear_here : (word i : ℕ) → i < 64 → has_bit (bit_and word (bit_not w64 (1 * 2 ^ i % 2 ^ 64))) i ≡ false
clear_here word i small = ap (λ b. eqb b 1) (bit_at_clear_same w64 word i small)

pub clear_others : (word i k : ℕ) → i < 64 → k < 64 → (k ≡ i → ⊥) → has_bit (bit_and word (bit_not w64 (1 * 2 ^ i % 2 ^ 64))) k ≡ has_bit word k
clear_others word i k small below other = ap (λ b. eqb b 1) (bit_at_clear_other w64 word i small k below other)

-- `word >> i` has the bits of the word from i on
shifted : (word i k : ℕ) → has_bit (word / 2 ^ i) k ≡ has_bit word (i + k)
shifted word i k = ap (λ n. eqb (n % 2) 1) (div-div-eq-div-mul word (2 ^ i) (2 ^ k) ∙ ap (λ n. word / n) (sym (pow-add 2 i k)))

shifted_at : (word i j : ℕ) → i ≤ j → has_bit word j ≡ has_bit (word / 2 ^ i) (j - i)
shifted_at word i j from =
    let place : i + (j - i) ≡ j = omega (arith, from) in
    subst (λ k. has_bit word k ≡ has_bit (word / 2 ^ i) (j - i)) place (sym (shifted word i (j - i)))

-- a word has no bit from i on where `word >> i` is 0
pub none_from : (word i : ℕ) → word / 2 ^ i ≡ 0 → (j : ℕ) → i ≤ j → has_bit word j ≡ false
none_from word i none j from = shifted_at word i j from ∙ ap (λ n. has_bit n (j - i)) none ∙ none_in_zero (j - i)

-- a bit that is set in a word of 64 is below 64
pub set_below : (word i : ℕ) → word < 2 ^ 64 → has_bit word i ≡ true → i < 64
set_below word i fits set = elim (cases_lt i 64) [
  | inl below ↦ below
  | inr above ↦ let clear : has_bit word i ≡ false = ap (λ n. eqb n 1) (bit_at_above word 64 i fits above) in cc
]

-- the least bit of a word from i on is i plus that of `word >> i`
module _ (word i : ℕ) (some : word / 2 ^ i ≡ 0 → ⊥) (fits : word < 2 ^ 64) where
  lowest : (trailing_zeros w64 (word / 2 ^ i) < 64) × (bit_at (word / 2 ^ i) (trailing_zeros w64 (word / 2 ^ i)) ≡ 1) × ((k : ℕ) → k < trailing_zeros w64 (word / 2 ^ i) → bit_at (word / 2 ^ i) k ≡ 0)
  lowest =
      let less = div-le_self word (2 ^ i) in
      bit_at-trailing_zeros w64 (word / 2 ^ i) (omega arith) (omega arith)

  pub lowest_from : has_bit word (i + trailing_zeros w64 (word / 2 ^ i)) ≡ true
  lowest_from =
      sym (shifted word i (trailing_zeros w64 (word / 2 ^ i))) ∙ eq-eqb (bit_at (word / 2 ^ i) (trailing_zeros w64 (word / 2 ^ i))) 1 lowest.1

  pub below_lowest_from : (j : ℕ) → i ≤ j → j < i + trailing_zeros w64 (word / 2 ^ i) → has_bit word j ≡ false
  below_lowest_from j from below = shifted_at word i j from ∙ ap (λ n. eqb n 1) (lowest.2 (j - i) (omega (arith, from, below)))
