-- Labels as the program has them, in two words, and lists of them.
use Rattle.std.proofs.Common.{ℕ, ◌≡◌, ◌<◌, ◌+◌, Bool, true, ◌&&◌, eqb, List, inl, inr, arith, refl, sym, subst, ap, ◌∙◌, length}
use Rattle.std.specs.Prelude.{map, slice_index_or}
use Rattle.std.proofs.lemmas.Bool.{eqb-true, cases_lt, eq-eqb}
use Rattle.std.proofs.lemmas.List.{get_or-map}
use Rattle.cstn_label.specs.declared.labels.Label.{Label as Words}
use Rattle.cstn_label.specs.Labels.{empty}
use Rattle.cstn_label.specs.Words.{has_bit}
use Rattle.cstn_label.specs.Read.{mark_of, marks}
use Rattle.cstn_lift.specs.Labelled.{label_in}

both_left : (b c : Bool) → (b && c) ≡ true → b ≡ true
both_left b c e = grind arith

both_right : (b c : Bool) → (b && c) ≡ true → c ≡ true
both_right b c e = grind arith

-- labels that are the same words have the same marks
pub same_marks : (a b : Words) → (eqb a.yes b.yes && eqb a.no b.no) ≡ true → marks a ≡ marks b
same_marks a b e =
    let y = eqb-true a.yes b.yes (both_left (eqb a.yes b.yes) (eqb a.no b.no) e) in
    let n = eqb-true a.no b.no (both_right (eqb a.yes b.yes) (eqb a.no b.no) e) in
    ap (λ w. λ p. mark_of (has_bit w p) (has_bit a.no p)) y ∙ ap (λ w. λ p. mark_of (has_bit b.yes p) (has_bit w p)) n

-- the label that stands at a place
pub label_there : (labels : List Words) (i x : ℕ) (l : Words) → x < length labels → i ≡ x → l ≡ slice_index_or labels i l →
    marks l ≡ label_in (map marks labels) x
label_there labels i x l inside at is =
    ap marks is ∙ ap (λ j. marks (slice_index_or labels j l)) at ∙ sym (get_or-map marks labels x l empty inside)

-- what is so below n and at n is so below n + 1
pub upto_next : (P : ℕ → Type 0) (n : ℕ) → ((y : ℕ) → y < n → P y) → P n → (y : ℕ) → y < n + 1 → P y
upto_next P n before here y upto = elim (cases_lt y n) [
  | inl earlier ↦ before y earlier
  | inr later ↦ let at : n ≡ y = omega arith in subst P at here
]

-- equal labels are the same words
pub same_tested : (a b : Words) → a ≡ b → (eqb a.yes b.yes && eqb a.no b.no) ≡ true
same_tested a b same =
    let y = eq-eqb a.yes b.yes (ap (λ w. w.yes) same) in
    let n = eq-eqb a.no b.no (ap (λ w. w.no) same) in
    rw (y, n) refl
