-- Sets of numbers below 4,096 and the words that have them.
use Rattle.std.proofs.Common.{ℕ, zero, suc, ◌≡◌, ◌⊎◌, inl, inr, ◌/◌, ◌%◌, ◌+◌, ◌<◌, ◌≤◌, Bool, true, false, List, get_or, set, replicate, arith, refl, sym, cond, subst, ap, ◌∙◌, length-set}
use Rattle.std.proofs.lemmas.Bool.{cases_eq, cases_lt, false≢true}
use Rattle.std.proofs.lemmas.List.{get_or-replicate, get_or_past, length-replicate, get_or-set_same, get_or-set_other}
use Rattle.cstn_label.specs.Words.{has_bit}
use Rattle.cstn_log.specs.Blocks.{has_number, AreSummed}
use Rattle.cstn_log.proofs.BitLemmas.{none_in_zero}

-- two numbers are one, or they aren't
cases_same : (a b : ℕ) → (a ≡ b) ⊎ (a ≡ b → ⊥)
cases_same a b = elim (cases_lt a b) [
  | inl less ↦ inr (λ s. omega (arith, s, less))
  | inr more ↦ elim (cases_lt b a) [
    | inl above ↦ inr (λ s. omega (arith, s, above))
    | inr upto ↦ inl (omega (arith, more, upto))
  ]
]

zero_at : (n k : ℕ) → get_or (replicate n zero) k zero ≡ zero
zero_at n k = elim (cases_lt k n) [
  | inl low ↦ get_or-replicate n k 0 0 low
  | inr past ↦ get_or_past (replicate n 0) k 0 (omega (arith, past, length-replicate n zero))
]

-- words of 0 have no number
pub none_in_zeros : (k : ℕ) → has_number (replicate 64 0) k ≡ false
none_in_zeros k = ap (λ w. has_bit w (k % 64)) (zero_at 64 (k / 64)) ∙ none_in_zero (k % 64)

pub zeros_summed : AreSummed 0 (replicate 64 0)
zeros_summed = record {
  size = length-replicate 64 zero;
  some = λ r low set. absurd (false≢true (sym (none_in_zero r) ∙ set));
  none = λ r i low small clear. ap (λ w. has_bit w i) (zero_at 64 r) ∙ none_in_zero i;
}

-- one word is replaced, and the bit that tells whether it has a bit
pub set_summed : (rows new row word : ℕ) (words : List ℕ) → row < 64 → AreSummed rows words →
    ((r : ℕ) → r < 64 → (r ≡ row → ⊥) → has_bit new r ≡ has_bit rows r) →
    ((has_bit new row ≡ true) × (i : ℕ) × (i < 64) × (has_bit word i ≡ true)) ⊎ ((has_bit new row ≡ false) × ((i : ℕ) → i < 64 → has_bit word i ≡ false)) →
    AreSummed new (set words row word)
set_summed rows new row word words inside was others this = record {
  size = length-set words row word ∙ was.size;
  some = λ r low on. elim (cases_same r row) [
    | inl here ↦ elim this [
      | inl some ↦ (some.1, some.2, ap (λ n. has_bit (get_or (set words row word) n 0) some.1) here ∙ ap (λ w. has_bit w some.1) same ∙ some.3)
      | inr none ↦ absurd (false≢true (sym none.0 ∙ subst (λ n. has_bit new n ≡ true) here on))
    ]
    | inr ne ↦
        let old = was.some r low (sym (others r low ne) ∙ on) in
        (old.0, old.1, ap (λ w. has_bit w old.0) (other r ne) ∙ old.2)
  ];
  none = λ r i low small off. elim (cases_same r row) [
    | inl here ↦ elim this [
      | inl some ↦ absurd (false≢true (sym (subst (λ n. has_bit new n ≡ false) here off) ∙ some.0))
      | inr none ↦ ap (λ n. has_bit (get_or (set words row word) n 0) i) here ∙ ap (λ w. has_bit w i) same ∙ none.1 i small
    ]
    | inr ne ↦ ap (λ w. has_bit w i) (other r ne) ∙ was.none r i low small (sym (others r low ne) ∙ off)
  ];
}
  where
    same : get_or (set words row word) row 0 ≡ word
    same = get_or-set_same words row word 0 (omega (arith, inside, was.size))

    other : (r : ℕ) → (r ≡ row → ⊥) → get_or (set words row word) r 0 ≡ get_or words r 0
    other r ne = get_or-set_other words row r word 0 ne

one_if : Bool → ℕ
one_if b = cond b 1 0

-- how many numbers below n a set has
pub count_below : List ℕ → ℕ → ℕ
count_below words zero = 0
count_below words (suc n) = count_below words n + one_if (has_number words n)

-- a set that lost one number has one fewer
module _ (old new : List ℕ) (k : ℕ) (had : has_number old k ≡ true) (gone : has_number new k ≡ false)
    (others : (m : ℕ) → (m ≡ k → ⊥) → has_number new m ≡ has_number old m) where
  same_below : (n : ℕ) → n ≤ k → count_below new n ≡ count_below old n
  unfolding count_below
  same_below zero upto = refl
  same_below (suc n) upto =
      let rest = same_below n (omega (arith, upto)) in
      let last = ap one_if (others n (λ same. let f : ⊥ = omega (arith, upto, same) in f)) in
      omega (arith, rest, last)

  pub fewer_below : (n : ℕ) → k < n → count_below new n < count_below old n
  unfolding count_below one_if
  fewer_below zero inside = absurd (omega (arith, inside))
  fewer_below (suc n) inside = elim (cases_eq n k) [
    | inl same ↦
        let rest = same_below n (omega (arith, same)) in
        let off : one_if (has_number new n) ≡ 0 = ap one_if (ap (has_number new) same ∙ gone) in
        let on : one_if (has_number old n) ≡ 1 = ap one_if (ap (has_number old) same ∙ had) in
        omega (arith, rest, off, on)
    | inr other ↦
        let rest = fewer_below n (omega (arith, inside, other)) in
        let last = ap one_if (others n other) in
        omega (arith, rest, last)
  ]
