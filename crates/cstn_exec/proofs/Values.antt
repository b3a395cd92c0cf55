-- The values that are known, as words.
use Rattle.std.proofs.Common.{ℕ, ◌≡◌, inl, inr, ◌+◌, ◌<◌, ◌≤◌, Bool, true, cond, Option, Some, None, length, arith, refl, sym, subst, ap, ◌∙◌}
use Rattle.std.specs.Prelude.{◌↔◌, ◌==◌, IsTrue, if◌then◌else◌}
use Rattle.std.proofs.lemmas.Bool.{cases_Bool, cases_lt, cases_eq, cond-true, cond-false, eq-eqb, ne_eqb}
use Rattle.std.proofs.lemmas.Bool.Decides.{same_from_decides}
use Rattle.cstn_facts.proofs.Ranges.{each_passes, all_pass}
use Rattle.cstn_facts.proofs.Places.{some_within}
use Rattle.cstn_label.specs.declared.labels.Label.{Label}
use Rattle.cstn_label.specs.declared.knowledge.Known.{Known}
use Rattle.cstn_label.specs.Labels.{MarkFits, IsPossible}
use Rattle.cstn_label.specs.Read.{marks, is_known, the_values, known_value}
use Rattle.cstn_label.specs.Words.{has_bit}
use Rattle.cstn_net.specs.Networks.{Network, IsWellFormed}
use Rattle.cstn_exec.specs.Runs.{Run, known, fits_known, is_possible}
use Rattle.cstn_exec.proofs.Knowing.{known_from}
use Rattle.cstn_label.proofs.MarkLemmas.{fits_true, true_fits}
use Rattle.cstn_label.proofs.LetterLemmas.{MarksEnd}

pub with_value : (k l : Known) (p : ℕ) (v : Bool) → ((q : ℕ) → has_bit l.seen q ≡ cond (q == p) true (has_bit k.seen q)) →
    ((q : ℕ) → the_values l q ≡ cond (q == p) v (the_values k q)) → (q : ℕ) → known_value l q ≡ cond (q == p) (Some v) (known_value k q)
with_value k l p v seen values q = elim (cases_Bool (q == p)) [
  | inl same ↦
      let s = seen q ∙ cond-true (q == p) true (has_bit k.seen q) same in
      let w = values q ∙ cond-true (q == p) v (the_values k q) same in
      cond-true (has_bit l.seen q) (Some (the_values l q)) None s ∙ ap (λ b. Some b) w ∙ sym (cond-true (q == p) (Some v) (known_value k q) same)
  | inr other ↦
      let s = seen q ∙ cond-false (q == p) true (has_bit k.seen q) other in
      let w = values q ∙ cond-false (q == p) v (the_values k q) other in
      subst (λ b. (if b then Some (the_values l q) else None) ≡ cond (q == p) (Some v) (known_value k q)) (sym s)
      (subst (λ b. (if has_bit k.seen q then Some b else None) ≡ cond (q == p) (Some v) (known_value k q)) (sym w)
      (sym (cond-false (q == p) (Some v) (known_value k q) other)))
]

values_fit : MarksEnd → (k : Known) (a : Label) → is_possible (known_value k) (marks a) ≡ true → IsPossible (is_known k) (the_values k) (marks a)
unfolding is_possible
values_fit end k a h = λ p seen. elim (cases_lt p 52) [
  | inr above ↦ subst (MarkFits (the_values k p)) (sym (end a p above)) tt
  | inl below ↦
      let fit = each_passes (λ q. fits_known (known_value k q) (marks a q)) 0 52 h p (omega arith) (omega arith) in
      let at = cond-true (has_bit k.seen p) (Some (the_values k p)) None seen in
      fits_true (the_values k p) (marks a p) (subst (λ o. fits_known o (marks a p) ≡ true) at fit)
]

fit_values : (k : Known) (a : Label) → IsPossible (is_known k) (the_values k) (marks a) → is_possible (known_value k) (marks a) ≡ true
unfolding is_possible
fit_values k a h = all_pass (λ q. fits_known (known_value k q) (marks a q)) 0 52 (λ p from upto. elim (cases_Bool (has_bit k.seen p)) [
  | inl seen ↦
      subst (λ o. fits_known o (marks a p) ≡ true) (sym (cond-true (has_bit k.seen p) (Some (the_values k p)) None seen))
      (true_fits (the_values k p) (marks a p) (h p seen))
  | inr unseen ↦
      subst (λ o. fits_known o (marks a p) ≡ true) (sym (cond-false (has_bit k.seen p) (Some (the_values k p)) None unseen)) refl
])

pub possible_is : MarksEnd → (k : Known) (a : Label) (r : Bool) → (IsTrue r ↔ IsPossible (is_known k) (the_values k) (marks a)) →
    r ≡ is_possible (known_value k) (marks a)
possible_is end k a r h = same_from_decides r (is_possible (known_value k) (marks a)) (h.0, h.1) (values_fit end k a, fit_values k a)

-- k holds the given values of the propositions below index, and none of another proposition
pub record KnownBelow (values : ℕ → Option Bool) (k : Known) (index : ℕ) : Type 0 where
  pub below : (q : ℕ) → q < index → known_value k q ≡ values q
  pub above : (q : ℕ) → index ≤ q → known_value k q ≡ None

pub known_first : (values : ℕ → Option Bool) (k : Known) → ((q : ℕ) → known_value k q ≡ None) → KnownBelow values k 0
known_first values k none = record {
  below = λ q upto. absurd (omega arith);
  above = λ q from. none q;
}

pub known_same : (values : ℕ → Option Bool) (k : Known) (index : ℕ) → values index ≡ None → KnownBelow values k index → KnownBelow values k (index + 1)
known_same values k index none b = record {
  below = λ q upto. elim (cases_eq q index) [
    | inl same ↦ b.above q (omega arith) ∙ sym (subst (λ r. values r ≡ None) (sym same) none)
    | inr other ↦ b.below q (omega arith)
  ];
  above = λ q from. b.above q (omega arith);
}

pub known_more : (values : ℕ → Option Bool) (k l : Known) (index : ℕ) (v : Bool) → values index ≡ Some v →
    ((q : ℕ) → has_bit l.seen q ≡ cond (q == index) true (has_bit k.seen q)) →
    ((q : ℕ) → the_values l q ≡ cond (q == index) v (the_values k q)) → KnownBelow values k index → KnownBelow values l (index + 1)
known_more values k l index v some seen bits b = record {
  below = λ q upto. elim (cases_eq q index) [
    | inl same ↦
        with_value k l index v seen bits q ∙ cond-true (q == index) (Some v) (known_value k q) (eq-eqb q index same)
        ∙ sym (subst (λ r. values r ≡ Some v) (sym same) some)
    | inr other ↦
        with_value k l index v seen bits q ∙ cond-false (q == index) (Some v) (known_value k q) (ne_eqb q index other)
        ∙ b.below q (omega arith)
  ];
  above = λ q from.
      with_value k l index v seen bits q ∙ cond-false (q == index) (Some v) (known_value k q) (ne_eqb q index (λ same. omega arith))
      ∙ b.above q (omega arith);
}

pub known_above : (net : Network) (wf : IsWellFormed net) (run : Run) (u p : ℕ) → length run.outcomes ≡ 52 → 52 ≤ p → known net run u p ≡ None
known_above net wf run u p size above = go (known net run u p) refl
  where
    go : (o : Option Bool) → known net run u p ≡ o → known net run u p ≡ None
    go None e = e
    go (Some v) e =
        let seen = (known_from net wf.network run u p v e).1 in
        let inside = some_within run.outcomes p v seen in
        absurd (omega arith)
