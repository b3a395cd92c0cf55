-- Which time-points are executed in scenarios that agree on what is observed in one of them.
use Rattle.std.proofs.Common.{ℕ, zero, suc, ◌≡◌, ◌⊎◌, inl, inr, ◌<◌, arith, sym, subst}
use Rattle.cstn_label.specs.declared.marks.Mark.{Mark}
use Rattle.cstn_label.specs.declared.marks.Mark.TheVariants.{Absent, Yes, No, Unknown}
use Rattle.std.specs.Prelude.{Bool, true, false}
use Rattle.cstn_label.specs.Labels.{Label, Scenario, MarkFits, IsMarked}
use Rattle.cstn_label.proofs.MarkLemmas.{absent_or_not, fits_absent, mark_fits_within, mark_within_absent}
use Rattle.cstn_label.proofs.LabelLemmas.{holds_within}
use Rattle.std.proofs.lemmas.Bool.{cases_lt}
use Rattle.cstn_net.specs.Networks.{Observes}
use Rattle.cstn_lift.specs.Labelled.{Labelled}
use Rattle.cstn_lift.specs.Completion.{completed_label}
use Rattle.cstn_lift.specs.WellFormed.{IsLabelled}
use Rattle.cstn_lift.specs.Strategies.{IsExecuted}
use Rattle.cstn_lift.proofs.FullLemmas.{full_on, label_within, rank, rank_falls}

fits_or_not : (v : Bool) (m : Mark) → MarkFits v m ⊎ (MarkFits v m → ⊥)
fits_or_not v Absent = inl tt
fits_or_not true Yes = inl tt
fits_or_not false Yes = inr (λ h. h)
fits_or_not true No = inr (λ h. h)
fits_or_not false No = inl tt
fits_or_not true Unknown = inr (λ h. h)
fits_or_not false Unknown = inr (λ h. h)

module _ (m : Labelled) (good : IsLabelled m) where
  abbrev full : ℕ → Label
  full x = completed_label m x

  -- the observers of what a completed label marks are executed wherever it holds
  pub observers_executed : (s : Scenario) (x j p : ℕ) → IsExecuted m s x → Observes m.base j p → IsMarked (full x) p → IsExecuted m s j
  observers_executed s x j p h o marked = holds_within s (full j) (full x) (label_within m good x j p o marked) h

  pub twin_right : (s r : Scenario) → ((j p : ℕ) → Observes m.base j p → IsExecuted m s j → r p ≡ s p) → (x : ℕ) →
      IsExecuted m s x → IsExecuted m r x
  twin_right s r same x h p = elim (absent_or_not (full x p)) [
    | inl none ↦ fits_absent (r p) (full x p) none
    | inr marked ↦
        let o = full_on m good x p marked in
        let there = observers_executed s x o.0 p h o.1 marked in
        subst (λ v. MarkFits v (full x p)) (sym (same o.0 p o.1 there)) (h p)
  ]

  seen_back : (s r : Scenario) → ((j p : ℕ) → Observes m.base j p → IsExecuted m s j → r p ≡ s p) → (x : ℕ) → IsExecuted m r x →
      (n j p : ℕ) → rank m good j < n → Observes m.base j p → IsMarked (full x) p → IsExecuted m s j
  seen_back s r same x h zero j p lt o marked = absurd (omega arith)
  seen_back s r same x h (suc n) j p lt o marked = λ q. elim (absent_or_not (full j q)) [
    | inl none ↦ fits_absent (s q) (full j q) none
    | inr marks ↦
        let k = full_on m good j q marks in
        let inside = label_within m good x j p o marked q in
        let lower = rank_falls m good j p k.0 q o k.1 marks in
        let also : IsMarked (full x) q = λ e. marks (mark_within_absent (full j q) (full x q) inside e) in
        let there = seen_back s r same x h n k.0 q (omega arith) k.1 also in
        subst (λ v. MarkFits v (full j q)) (same k.0 q k.1 there) (mark_fits_within (r q) (full j q) (full x q) inside (h q))
  ]

  pub twin_left : (s r : Scenario) → ((j p : ℕ) → Observes m.base j p → IsExecuted m s j → r p ≡ s p) → (x : ℕ) →
      IsExecuted m r x → IsExecuted m s x
  twin_left s r same x h p = elim (absent_or_not (full x p)) [
    | inl none ↦ fits_absent (s p) (full x p) none
    | inr marked ↦
        let o = full_on m good x p marked in
        let there = seen_back s r same x h (suc (rank m good o.0)) o.0 p (omega arith) o.1 marked in
        subst (λ v. MarkFits v (full x p)) (same o.0 p o.1 there) (h p)
  ]

  -- the scenario fits the label at each of the first q propositions, or there is a proposition at which it doesn't
  fits_upto : (s : Scenario) (a : Label) (q : ℕ) → ((p : ℕ) → p < q → MarkFits (s p) (a p)) ⊎ ((p : ℕ) × (MarkFits (s p) (a p) → ⊥))
  fits_upto s a zero = inl (λ p before. absurd (omega arith))
  fits_upto s a (suc q) = elim (fits_upto s a q) [
    | inr found ↦ inr found
    | inl below ↦ elim (fits_or_not (s q) (a q)) [
      | inr misfit ↦ inr (q, misfit)
      | inl fit ↦ inl (λ p before. elim (cases_lt p q) [
        | inl earlier ↦ below p earlier
        | inr later ↦ let at : q ≡ p = omega arith in subst (λ r. MarkFits (s r) (a r)) at fit
      ])
    ]
  ]

  -- a time-point is executed in a scenario, or it isn't
  pub executed_or_not : (s : Scenario) (x : ℕ) → IsExecuted m s x ⊎ (IsExecuted m s x → ⊥)
  executed_or_not s x = elim (fits_upto s (full x) 52) [
    | inr found ↦ inr (λ h. found.1 (h found.0))
    | inl below ↦ inl (λ p. elim (cases_lt p 52) [
      | inl inside ↦ below p inside
      | inr past ↦ elim (absent_or_not (full x p)) [
        | inl none ↦ fits_absent (s p) (full x p) none
        | inr marked ↦ let o = full_on m good x p marked in let letter = good.base.letters o.0 p o.1 in absurd (omega arith)
      ]
    ])
  ]
