-- Laws of words as sets of their bits.
use Rattle.std.proofs.Common.{ℕ, suc, ◌≡◌, inl, inr, ◌+◌, ◌-◌, ◌*◌, ◌/◌, ◌%◌, mod-lt, ◌^◌, ◌<◌, ◌≤◌, min, max, Bool, true, false, cond, ◌||◌, ◌&&◌, eqb, arith, sym, subst, ◌∙◌, ap, bit_and, bit_or, w64}
use Rattle.std.specs.Int.{bit_at, bit_not, trailing_zeros}
use Rattle.std.proofs.Math.Nat.{div-le_self}
use Rattle.std.proofs.Math.Pow.{pow-lt}
use Rattle.std.proofs.lemmas.Nat.{pow_pos, div-add-mod'}
use Rattle.std.proofs.lemmas.Bool.{cases_lt, cases_eq, eqb-true, eqb-false, eq-eqb, ne_eqb}
use Rattle.std.proofs.lemmas.Bool.Decides.{nat_tests}
use Rattle.std.proofs.lemmas.Nat.Bits.{bit_at_and, bit_at_or, bit_at_not, bit_at-lt, bit_at_above, same_from_bits, bit_at_cat_high, bit_at-trailing_zeros, bit_at-zero, bit_at_clear_same, bit_at_clear_other, bit_at_set_same, bit_at_set_other, bit_at_ones, bit_at_ones_above}
use Rattle.std.specs.Int.Bits.{or_lt}
use Rattle.cstn_label.specs.Words.{has_bit, meant, IsApart, IsInside}

-- tests of bits, over numbers below 2
or_bit : (a b : ℕ) → a < 2 → b < 2 → eqb (max a b) 1 ≡ (eqb a 1 || eqb b 1)
or_bit a b h k = grind (arith, nat_tests)

and_bit : (a b : ℕ) → a < 2 → b < 2 → eqb (min a b) 1 ≡ (eqb a 1 && eqb b 1)
and_bit a b h k = grind (arith, nat_tests)

same_bit : (a b : ℕ) → a < 2 → b < 2 → eqb a 1 ≡ eqb b 1 → a ≡ b
same_bit a b h k e = grind (arith, nat_tests)

pub has_bit_or : (a b i : ℕ) → has_bit (bit_or a b) i ≡ (has_bit a i || has_bit b i)
has_bit_or a b i = ap (λ n. eqb n 1) (bit_at_or a b i) ∙ or_bit (bit_at a i) (bit_at b i) (bit_at-lt a i) (bit_at-lt b i)

pub has_bit_and : (a b i : ℕ) → has_bit (bit_and a b) i ≡ (has_bit a i && has_bit b i)
has_bit_and a b i = ap (λ n. eqb n 1) (bit_at_and a b i) ∙ and_bit (bit_at a i) (bit_at b i) (bit_at-lt a i) (bit_at-lt b i)

pub has_bit-zero : (i : ℕ) → has_bit 0 i ≡ false
has_bit-zero i = ap (λ n. eqb n 1) (bit_at-zero i)

pub has_bit_above : (word k i : ℕ) → word < 2 ^ k → k ≤ i → has_bit word i ≡ false
has_bit_above word k i fits above = ap (λ n. eqb n 1) (bit_at_above word k i fits above)

-- words with the same bits are equal
pub same_word : (a b : ℕ) → ((i : ℕ) → has_bit a i ≡ has_bit b i) → a ≡ b
same_word a b same = same_from_bits a b (λ i. same_bit (bit_at a i) (bit_at b i) (bit_at-lt a i) (bit_at-lt b i) (same i))

pub apart_zero : (a b : ℕ) → IsApart a b → bit_and a b ≡ 0
apart_zero a b h = same_from_bits (bit_and a b) 0 (λ i.
    let both = bit_at_and a b i in
    let none = bit_at-zero i in
    let a_lt = bit_at-lt a i in
    let b_lt = bit_at-lt b i in
    elim (cases_lt (bit_at a i) 1) [
      | inl clear ↦ omega arith
      | inr set ↦
          let out = eqb-false (bit_at b i) 1 (h i (eq-eqb (bit_at a i) 1 (omega arith))) in
          let ne : bit_at b i ≡ 1 → ⊥ = out in
          let zero : bit_at b i ≡ 0 = omega arith in
          omega arith
    ])

pub zero_apart : (a b : ℕ) → bit_and a b ≡ 0 → IsApart a b
zero_apart a b e i set =
    let both = bit_at_and a b i in
    let here = eqb-true (bit_at a i) 1 set in
    let none : bit_at (bit_and a b) i ≡ 0 = rw e (bit_at-zero i) in
    ne_eqb (bit_at b i) 1 (λ one. omega arith)

-- a word that two words make together is 0 exactly where both are
pub or_zero_left : (a b : ℕ) → bit_or a b ≡ 0 → a ≡ 0
or_zero_left a b e = same_from_bits a 0 (λ i.
    let both = bit_at_or a b i in
    let none : bit_at (bit_or a b) i ≡ 0 = rw e (bit_at-zero i) in
    let zero = bit_at-zero i in
    omega arith)

pub or_zero_right : (a b : ℕ) → bit_or a b ≡ 0 → b ≡ 0
or_zero_right a b e = same_from_bits b 0 (λ i.
    let both = bit_at_or a b i in
    let none : bit_at (bit_or a b) i ≡ 0 = rw e (bit_at-zero i) in
    let zero = bit_at-zero i in
    omega arith)

pub zeros_or : (a b : ℕ) → a ≡ 0 → b ≡ 0 → bit_or a b ≡ 0
zeros_or a b e f = rw (e, f) (λ i. 0)

pub inside_zero : (a b : ℕ) → a < 2 ^ 64 → b < 2 ^ 64 → IsInside a b → bit_and a (bit_not w64 b) ≡ 0
inside_zero a b a_fits b_fits h = same_from_bits (bit_and a (bit_not w64 b)) 0 (λ i.
    let both = bit_at_and a (bit_not w64 b) i in
    let none = bit_at-zero i in
    let a_lt = bit_at-lt a i in
    elim (cases_lt i 64) [
      | inl below ↦
          let flipped = bit_at_not w64 b i b_fits below in
          elim (cases_lt (bit_at a i) 1) [
            | inl clear ↦ omega arith
            | inr set ↦
                let other : bit_at b i ≡ 1 = eqb-true (bit_at b i) 1 (h i (eq-eqb (bit_at a i) 1 (omega arith))) in
                omega arith
          ]
      | inr above ↦ let clear = bit_at_above a 64 i a_fits above in omega arith
    ])

pub zero_inside : (a b : ℕ) → a < 2 ^ 64 → b < 2 ^ 64 → bit_and a (bit_not w64 b) ≡ 0 → IsInside a b
zero_inside a b a_fits b_fits e i set =
    let both = bit_at_and a (bit_not w64 b) i in
    let here = eqb-true (bit_at a i) 1 set in
    let none : bit_at (bit_and a (bit_not w64 b)) i ≡ 0 = rw e (bit_at-zero i) in
    let b_lt = bit_at-lt b i in
    elim (cases_lt i 64) [
      | inl below ↦ let flipped = bit_at_not w64 b i b_fits below in eq-eqb (bit_at b i) 1 (omega arith)
      | inr above ↦ let clear = bit_at_above a 64 i a_fits above in absurd (omega arith)
    ]

-- `word & !(1 << i)` has no bit i, and the other bits of the word
pub has_bit_clear : (word i : ℕ) → word < 2 ^ 64 → i < 52 → (k : ℕ) →
    has_bit (bit_and word (bit_not w64 (1 * 2 ^ i % 2 ^ 64))) k ≡ cond (eqb k i) false (has_bit word k)
has_bit_clear word i fits within k = elim (cases_eq k i) [
  | inl e ↦ rw (eq-eqb k i e) (subst (λ j. has_bit (bit_and word (bit_not w64 (1 * 2 ^ i % 2 ^ 64))) j ≡ false) (sym e)
      (ap (λ b. eqb b 1) (bit_at_clear_same w64 word i (let h : i < 64 = omega arith in h))))
  | inr other ↦ rw (ne_eqb k i other) (elim (cases_lt k 64) [
    | inl below ↦ ap (λ b. eqb b 1) (bit_at_clear_other w64 word i (let h : i < 64 = omega arith in h) k below other)
    | inr above ↦
        let none : bit_at word k ≡ 0 = bit_at_above word 64 k fits above in
        let both = bit_at_and word (bit_not w64 (1 * 2 ^ i % 2 ^ 64)) k in
        ap (λ b. eqb b 1) (let z : bit_at (bit_and word (bit_not w64 (1 * 2 ^ i % 2 ^ 64))) k ≡ bit_at word k = omega arith in z)
  ])
]

-- `word | 1 << i` has bit i, and the other bits of the word
pub has_bit_set : (word i : ℕ) → i < 52 → (k : ℕ) →
    has_bit (bit_or word (1 * 2 ^ i % 2 ^ 64)) k ≡ cond (eqb k i) true (has_bit word k)
has_bit_set word i within k = elim (cases_eq k i) [
  | inl e ↦ rw (eq-eqb k i e) (subst (λ j. has_bit (bit_or word (1 * 2 ^ i % 2 ^ 64)) j ≡ true) (sym e)
      (ap (λ b. eqb b 1) (bit_at_set_same w64 word i (let h : i < 64 = omega arith in h))))
  | inr other ↦ rw (ne_eqb k i other)
      (ap (λ b. eqb b 1) (bit_at_set_other w64 word i (let h : i < 64 = omega arith in h) k other))
]

pub or_in_range : (a b : ℕ) → a < 2 ^ 52 → b < 2 ^ 52 → bit_or a b < 2 ^ 52
or_in_range a b h k = or_lt 52 a b h k

-- with a bit below 52 set, a word below 2 ^ 52 stays so
pub set_in_range : (word i : ℕ) → i < 52 → word < 2 ^ 52 → bit_or word (1 * 2 ^ i % 2 ^ 64) < 2 ^ 52
set_in_range word i within small =
    let up : 2 ^ i < 2 ^ 52 = pow-lt within in
    let wide : 2 ^ i < 2 ^ 64 = pow-lt {i = i} {j = 64} (omega arith) in
    let same : 1 * 2 ^ i % 2 ^ 64 ≡ 2 ^ i = omega arith in
    or_lt 52 word _ small (omega arith)

-- `a & b` has no bit outside b
pub and_again : (a b : ℕ) → bit_and (bit_and a b) b ≡ bit_and a b
and_again a b = same_from_bits (bit_and (bit_and a b) b) (bit_and a b) (λ i.
    let outer = bit_at_and (bit_and a b) b i in
    let inner = bit_at_and a b i in
    omega arith)

inside_bits : (on b s v : Bool) → (b && s) ≡ b → (cond on v b && cond on true s) ≡ cond on v b
inside_bits on b s v e = grind arith

-- a word within `seen` stays within it where bit i takes any value in the word and is set in `seen`
pub still_among : (bits seen wide more i : ℕ) (v : Bool) → bit_and bits seen ≡ bits →
    ((k : ℕ) → has_bit wide k ≡ cond (eqb k i) v (has_bit bits k)) →
    ((k : ℕ) → has_bit more k ≡ cond (eqb k i) true (has_bit seen k)) → bit_and wide more ≡ wide
still_among bits seen wide more i v among widened grown = same_word (bit_and wide more) wide (λ k.
    let both : (has_bit bits k && has_bit seen k) ≡ has_bit bits k = sym (has_bit_and bits seen k) ∙ ap (λ w. has_bit w k) among in
    has_bit_and wide more k ∙ rw (widened k, grown k) (inside_bits (eqb k i) (has_bit bits k) (has_bit seen k) v both))

-- `word >> i` has the bits of the word from i on
pub has_bit_shifted : (word i k : ℕ) → has_bit (word / 2 ^ i) k ≡ has_bit word (i + k)
has_bit_shifted word i k =
    let power = pow_pos i in
    let below : word % 2 ^ i < 2 ^ i = mod-lt word power in
    let high = bit_at_cat_high (word / 2 ^ i) i (word % 2 ^ i) (i + k) below (omega arith) in
    let whole : bit_at word (i + k) ≡ bit_at (word / 2 ^ i) (i + k - i) =
    subst (λ n. bit_at n (i + k) ≡ bit_at (word / 2 ^ i) (i + k - i)) (div-add-mod' word (2 ^ i)) high in
    let same : i + k - i ≡ k = omega arith in
    ap (λ n. eqb n 1) (sym (whole ∙ ap (λ j. bit_at (word / 2 ^ i) j) same))

-- a word has no bit from i up to i + low where `word >> i` has none below `low`
pub clear_from : (word i low : ℕ) → ((k : ℕ) → k < low → has_bit (word / 2 ^ i) k ≡ false) →
    (j : ℕ) → i ≤ j → j < i + low → has_bit word j ≡ false
clear_from word i low clear j from below =
    let place : i + (j - i) ≡ j = omega arith in
    subst (λ k. has_bit word k ≡ false) place
    (sym (has_bit_shifted word i (j - i)) ∙ clear (j - i) (omega arith))

-- the least bit of a word that isn't 0 is at `trailing_zeros`
pub lowest_bit : (rest : ℕ) → 0 < rest → rest < 2 ^ 64 → has_bit rest (trailing_zeros w64 rest) ≡ true
lowest_bit rest some fits =
    eq-eqb (bit_at rest (trailing_zeros w64 rest)) 1 (bit_at-trailing_zeros w64 rest some fits).1

pub below_lowest : (rest : ℕ) → 0 < rest → rest < 2 ^ 64 → (k : ℕ) → k < trailing_zeros w64 rest → has_bit rest k ≡ false
below_lowest rest some fits k below = ap (λ n. eqb n 1) ((bit_at-trailing_zeros w64 rest some fits).2 k below)

-- a word has no bit from i on where `word >> i` is 0
pub none_from : (word i : ℕ) → word / 2 ^ i ≡ 0 → (j : ℕ) → i ≤ j → has_bit word j ≡ false
none_from word i none j from =
    clear_from word i (suc j) (λ k below. subst (λ rest. has_bit rest k ≡ false) (sym none) (has_bit-zero k)) j from (omega arith)

-- a bit that is set in a word below 2 ^ k is below k
pub set_below : (word k i : ℕ) → word < 2 ^ k → has_bit word i ≡ true → i < k
set_below word k i fits set = elim (cases_lt i k) [
  | inl below ↦ below
  | inr above ↦ let clear = has_bit_above word k i fits above in cc
]

-- the least bit of a word from i on is i plus that of `word >> i`
pub lowest_from : (word i : ℕ) → (word / 2 ^ i ≡ 0 → ⊥) → word < 2 ^ 64 →
    has_bit word (i + trailing_zeros w64 (word / 2 ^ i)) ≡ true
lowest_from word i some fits =
    let less = div-le_self word (2 ^ i) in
    sym (has_bit_shifted word i (trailing_zeros w64 (word / 2 ^ i))) ∙ lowest_bit (word / 2 ^ i) (omega arith) (omega arith)

pub below_lowest_from : (word i : ℕ) → (word / 2 ^ i ≡ 0 → ⊥) → word < 2 ^ 64 →
    (j : ℕ) → i ≤ j → j < i + trailing_zeros w64 (word / 2 ^ i) → has_bit word j ≡ false
below_lowest_from word i some fits =
    let less = div-le_self word (2 ^ i) in
    clear_from word i (trailing_zeros w64 (word / 2 ^ i)) (below_lowest (word / 2 ^ i) (omega arith) (omega arith))

and_all : (b o : Bool) → o ≡ true → (b && o) ≡ b
and_all b o e = grind arith

and_none : (b o : Bool) → o ≡ false → (b && o) ≡ false
and_none b o e = grind arith

-- `meant` keeps the bits below 52 and no others
pub meant_below : (word p : ℕ) → p < 52 → has_bit (meant word) p ≡ has_bit word p
meant_below word p below = has_bit_and word (2 ^ 52 - 1) p ∙
    and_all (has_bit word p) (has_bit (2 ^ 52 - 1) p) (ap (λ n. eqb n 1) (bit_at_ones 52 p below))

pub meant_above : (word p : ℕ) → 52 ≤ p → has_bit (meant word) p ≡ false
meant_above word p above = has_bit_and word (2 ^ 52 - 1) p ∙
    and_none (has_bit word p) (has_bit (2 ^ 52 - 1) p) (ap (λ n. eqb n 1) (bit_at_ones_above 52 p above))

-- words mean the same where they have the same bits of propositions
pub meant_from_bits : (a b : ℕ) → ((p : ℕ) → p < 52 → has_bit a p ≡ has_bit b p) → meant a ≡ meant b
meant_from_bits a b same = same_word (meant a) (meant b) (λ p. elim (cases_lt p 52) [
  | inl below ↦ meant_below a p below ∙ same p below ∙ sym (meant_below b p below)
  | inr above ↦ meant_above a p above ∙ sym (meant_above b p above)
])

pub bits_from_meant : (a b : ℕ) → meant a ≡ meant b → (p : ℕ) → p < 52 → has_bit a p ≡ has_bit b p
bits_from_meant a b same p below =
    sym (meant_below a p below) ∙ ap (λ w. has_bit w p) same ∙ meant_below b p below
