-- Words as sets of their bits.
use Rattle.std.proofs.Common.{ℕ, zero, suc, ◌≡◌, inl, inr, Bool, true, false, cond, ◌+◌, ◌≤◌, ◌-◌, ◌*◌, ◌%◌, ◌^◌, ◌<◌, ◌/◌, ◌&&◌, not, eqb, ltb, mod-lt, arith, refl, sym, ap, ◌∙◌, bit_and, bit_xor, w64}
use Rattle.std.specs.Int.{bit_at, bit_not}
use Rattle.std.proofs.Math.Pow.{pow-lt}
use Rattle.std.proofs.lemmas.Nat.{pow_pos, div-add-mod'}
use Rattle.std.proofs.lemmas.Bool.{eqb-true, eqb-false, cases_eq, cases_lt, false≢true, lt-ltb, le-ltb}
use Rattle.std.proofs.lemmas.Bool.Decides.{nat_tests}
use Rattle.std.proofs.lemmas.Nat.Bits.{bit_at-lt, bit_at_not, bit_at_clear_other, bit_at_ones, bit_at_ones_above, bit_at_cat_low, bit_at_cat_high, bit_at-pow_same, bit_at-pow_other, bit_at_xor, same_from_bits_below}
use Rattle.cstn_label.specs.Words.{has_bit}
use Rattle.cstn_label.proofs.WordLemmas.{has_bit_and, has_bit_above}

-- `word & !(1 << i)` has the other bits of the word
pub clear_others : (word i k : ℕ) → word < 2 ^ 64 → i < 64 → (k ≡ i → ⊥) →
    has_bit (bit_and word (bit_not w64 (1 * 2 ^ i % 2 ^ 64))) k ≡ has_bit word k
clear_others word i k fits small other = elim (cases_lt k 64) [
  | inl below ↦ ap (λ b. eqb b 1) (bit_at_clear_other w64 word i small k below other)
  | inr above ↦ has_bit_and word (bit_not w64 (1 * 2 ^ i % 2 ^ 64)) k ∙ rw (has_bit_above word 64 k fits above) refl
]

-- `(1 << n) - 1` has the bits below n
pub has_bit_ones : (n k : ℕ) → has_bit (2 ^ n - 1) k ≡ ltb k n
has_bit_ones n k = elim (cases_lt k n) [
  | inl below ↦ ap (λ b. eqb b 1) (bit_at_ones n k below) ∙ sym (lt-ltb k n below)
  | inr above ↦ ap (λ b. eqb b 1) (bit_at_ones_above n k above) ∙ sym (le-ltb k n above)
]

pub low_ones : (n k : ℕ) → n < 64 → has_bit (1 * 2 ^ n % 2 ^ 64 - 1) k ≡ ltb k n
low_ones n k small =
    let up : 2 ^ n < 2 ^ 64 = pow-lt {i = n} {j = 64} small in
    let same : 1 * 2 ^ n % 2 ^ 64 ≡ 2 ^ n = omega arith in
    ap (λ w. has_bit (w - 1) k) same ∙ has_bit_ones n k

flipped : (a : ℕ) → a < 2 → eqb (1 - a) 1 ≡ not (eqb a 1)
flipped a small = grind (arith, nat_tests)

-- `a & !b` has the bits of a that b doesn't have
pub has_bit_without : (a b k : ℕ) → a < 2 ^ 64 → b < 2 ^ 64 → has_bit (bit_and a (bit_not w64 b)) k ≡ (has_bit a k && not (has_bit b k))
has_bit_without a b k a_fits b_fits = elim (cases_lt k 64) [
  | inl below ↦ has_bit_and a (bit_not w64 b) k
      ∙ ap (λ t. has_bit a k && t) (ap (λ n. eqb n 1) (bit_at_not w64 b k b_fits below) ∙ flipped (bit_at b k) (bit_at-lt b k))
  | inr above ↦ has_bit_and a (bit_not w64 b) k ∙ rw (has_bit_above a 64 k a_fits above) refl
]

-- `word & (word - 1)` has the bits of a word but for its least one
module _ (word i : ℕ) (set : has_bit word i ≡ true) (least : (j : ℕ) → j < i → has_bit word j ≡ false) where
  abbrev high : ℕ
  high = word / 2 ^ suc i

  clear_bit : (n : ℕ) → n < 2 → (n ≡ 1 → ⊥) → n ≡ 0
  clear_bit n small not = omega (arith, small, not)

  low : word % 2 ^ suc i ≡ 2 ^ i
  low = same_from_bits_below (suc i) (word % 2 ^ suc i) (2 ^ i) (mod-lt word (pow_pos (suc i))) (pow-lt {i = i} {j = suc i} (omega arith)) (λ j below.
      let same : bit_at (word % 2 ^ suc i) j ≡ bit_at word j =
      sym (bit_at_cat_low high (suc i) (word % 2 ^ suc i) j below) ∙ ap (λ n. bit_at n j) (div-add-mod' word (2 ^ suc i)) in
      elim (cases_eq j i) [
        | inl here ↦ same ∙ ap (bit_at word) here ∙ eqb-true (bit_at word i) 1 set ∙ sym (bit_at-pow_same i) ∙ ap (bit_at (2 ^ i)) (sym here)
        | inr other ↦ same ∙ clear_bit (bit_at word j) (bit_at-lt word j) (eqb-false (bit_at word j) 1 (least j (omega (arith, below, other)))) ∙ sym (bit_at-pow_other i j other)
      ])

  by_parts : word ≡ high * 2 ^ suc i + 2 ^ i
  by_parts = sym (div-add-mod' word (2 ^ suc i)) ∙ ap (λ n. high * 2 ^ suc i + n) low

  less : word - 1 ≡ high * 2 ^ suc i + (2 ^ i - 1)
  less = omega (arith, by_parts, pow_pos i)

  less_above : (k : ℕ) → suc i ≤ k → bit_at (word - 1) k ≡ bit_at word k
  less_above k above =
      ap (λ n. bit_at n k) less ∙ bit_at_cat_high high (suc i) (2 ^ i - 1) k (let up : 2 ^ i < 2 ^ suc i = pow-lt {i = i} {j = suc i} (omega arith) in omega (arith, up)) above
      ∙ sym (ap (λ n. bit_at n k) by_parts ∙ bit_at_cat_high high (suc i) (2 ^ i) k (pow-lt {i = i} {j = suc i} (omega arith)) above)

  pub least_gone : has_bit (bit_and word (word - 1)) i ≡ false
  least_gone =
      let clear : bit_at (word - 1) i ≡ 0 = ap (λ n. bit_at n i) less ∙ bit_at_cat_low high (suc i) (2 ^ i - 1) i (omega arith) ∙ bit_at_ones_above i i (omega arith) in
      has_bit_and word (word - 1) i ∙ rw (set, clear) refl

  pub least_others : (k : ℕ) → (k ≡ i → ⊥) → has_bit (bit_and word (word - 1)) k ≡ has_bit word k
  least_others k other = has_bit_and word (word - 1) k ∙ elim (cases_lt k i) [
    | inl below ↦ rw (least k below) refl
    | inr above ↦ ap (λ b. has_bit word k && b) (ap (λ n. eqb n 1) (less_above k (omega (arith, above, other)))) ∙ twice (has_bit word k)
  ]
    where
      twice : (b : Bool) → (b && b) ≡ b
      twice true = refl
      twice false = refl

odd : (a b : ℕ) → a < 2 → b < 2 → eqb ((a + b) % 2) 1 ≡ cond (eqb a 1) (not (eqb b 1)) (eqb b 1)
odd zero zero a_small b_small = refl
odd zero (suc zero) a_small b_small = refl
odd zero (suc (suc b)) a_small b_small = absurd (omega (arith, b_small))
odd (suc zero) zero a_small b_small = refl
odd (suc zero) (suc zero) a_small b_small = refl
odd (suc zero) (suc (suc b)) a_small b_small = absurd (omega (arith, b_small))
odd (suc (suc a)) b a_small b_small = absurd (omega (arith, a_small))

-- `a ^ b` has the bits that one of the two has alone
pub has_bit_xor : (a b k : ℕ) → has_bit (bit_xor a b) k ≡ cond (has_bit a k) (not (has_bit b k)) (has_bit b k)
has_bit_xor a b k = ap (λ n. eqb n 1) (bit_at_xor a b k) ∙ odd (bit_at a k) (bit_at b k) (bit_at-lt a k) (bit_at-lt b k)

one_shl : (i : ℕ) → i < 64 → 1 * 2 ^ i % 2 ^ 64 ≡ 2 ^ i
one_shl i small = let up : 2 ^ i < 2 ^ 64 = pow-lt {i = i} {j = 64} small in omega arith

not_by : (b : Bool) → cond b (not true) true ≡ not b
not_by true = refl
not_by false = refl

same_by : (b : Bool) → cond b (not false) false ≡ b
same_by true = refl
same_by false = refl

-- `word ^ 1 << i` has bit i flipped, and the other bits of the word
pub flipped_here : (word i : ℕ) → i < 64 → has_bit (bit_xor word (1 * 2 ^ i % 2 ^ 64)) i ≡ not (has_bit word i)
flipped_here word i small = has_bit_xor word (1 * 2 ^ i % 2 ^ 64) i
    ∙ ap (λ b. cond (has_bit word i) (not b) b) (ap (λ n. has_bit n i) (one_shl i small) ∙ ap (λ n. eqb n 1) (bit_at-pow_same i)) ∙ not_by (has_bit word i)

pub flipped_others : (word i k : ℕ) → i < 64 → (k ≡ i → ⊥) → has_bit (bit_xor word (1 * 2 ^ i % 2 ^ 64)) k ≡ has_bit word k
flipped_others word i k small other = has_bit_xor word (1 * 2 ^ i % 2 ^ 64) k
    ∙ ap (λ b. cond (has_bit word k) (not b) b) (ap (λ n. has_bit n k) (one_shl i small) ∙ ap (λ n. eqb n 1) (bit_at-pow_other i k other)) ∙ same_by (has_bit word k)

-- how many of the bits below n are set
pub count_below : ℕ → ℕ → ℕ
count_below word zero = 0
count_below word (suc n) = cond (has_bit word n) 1 0 + count_below word n

-- each bit that is left is one of the word
abbrev pub IsPart : ℕ → ℕ → Type 0
IsPart rest word = (k : ℕ) → has_bit rest k ≡ true → has_bit word k ≡ true

-- a bit of the word is taken off
module _ (word word' p : ℕ) (gone : has_bit word' p ≡ false) (others : (k : ℕ) → (k ≡ p → ⊥) → has_bit word' k ≡ has_bit word k) where
  count_same : (n : ℕ) → n ≤ p → count_below word' n ≡ count_below word n
  unfolding count_below
  count_same zero low = refl
  count_same (suc n) low = ap (λ (b : Bool). cond b 1 0 + count_below word' n) (others n (λ same. omega (arith, same, low)))
      ∙ ap (λ (m : ℕ). cond (has_bit word n) 1 0 + m) (count_same n (omega (arith, low)))

  pub count_less : (n : ℕ) → has_bit word p ≡ true → p < n → count_below word' n < count_below word n
  unfolding count_below
  count_less zero set low = absurd (omega (arith, low))
  count_less (suc n) set low = elim (cases_eq n p) [
    | inl same ↦
        let before : count_below word' n ≡ count_below word n = count_same n (omega (arith, same)) in
        rw (ap (has_bit word') same ∙ gone, ap (has_bit word) same ∙ set, before) (omega arith)
    | inr other ↦ rw (others n other) (omega (arith, count_less n set (omega (arith, low, other))))
  ]

  pub part_less : (whole : ℕ) → IsPart word whole → IsPart word' whole
  part_less whole part k set = elim (cases_eq k p) [
    | inl same ↦ absurd (false≢true (sym gone ∙ sym (ap (has_bit word') same) ∙ set))
    | inr other ↦ part k (sym (others k other) ∙ set)
  ]
