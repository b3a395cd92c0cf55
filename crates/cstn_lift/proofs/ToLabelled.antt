-- A dynamic table in which what the completed label of an executed time-point marks is known at its moment, read at scenarios
-- with default values for what isn't observed, is a dynamic labelled table.
use Rattle.std.proofs.Common.{ℕ, zero, suc, ◌≡◌, inl, inr, ◌<◌, ◌≤◌, arith, sym, subst, ◌∙◌}
use Rattle.cstn_label.specs.Labels.{Label, Scenario, MarkFits, IsPossible}
use Rattle.cstn_label.proofs.MarkLemmas.{absent_or_not, fits_absent}
use Rattle.cstn_net.specs.Networks.{Observes, count}
use Rattle.cstn_net.specs.Strategies.{Table, IsKnown, Agrees, IsDynamic}
use Rattle.cstn_net.proofs.Knowledge.{observer_within}
use Rattle.cstn_lift.specs.Labelled.{Labelled}
use Rattle.cstn_lift.specs.Completion.{completed_label}
use Rattle.cstn_lift.specs.WellFormed.{IsLabelled}
use Rattle.cstn_lift.specs.Strategies.{IsExecuted, IsKnownExecuted, IsLabelledDynamic, IsDefaulted}
use Rattle.cstn_lift.proofs.FullLemmas.{full_on, rank, rank_falls}
use Rattle.cstn_lift.proofs.Executed.{observers_executed, twin_right, twin_left, executed_or_not}
use Rattle.cstn_lift.proofs.Dichotomy.{IsGuarded, possible_executed}

module _ (m : Labelled) (good : IsLabelled m) (table : Table) (d : Scenario) (twin : Scenario → Scenario)
    (dynamic : IsDynamic m.base table) (guarded : IsGuarded m table) (defaulted : (s : Scenario) → IsDefaulted m d s (twin s)) where
  abbrev full : ℕ → Label
  full x = completed_label m x

  same : (s : Scenario) (j p : ℕ) → Observes m.base j p → IsExecuted m s j → twin s p ≡ s p
  same s j p o h = (defaulted s).twins j p o h

  -- a time-point that is executed in s, at t or earlier, is executed in r, which agrees with what is known at t in s
  onward : (s r : Scenario) (t : ℕ) → ((p : ℕ) → IsKnownExecuted m s (table (twin s)) t p → r p ≡ s p) → (y : ℕ) →
      y < count m.base → table (twin s) y ≤ t → IsExecuted m s y → IsExecuted m r y
  onward s r t agrees y here by_then h p = elim (absent_or_not (full y p)) [
    | inl none ↦ fits_absent (r p) (full y p) none
    | inr marked ↦
        let o = full_on m good y p marked in
        let there = observers_executed m good s y o.0 p h o.1 marked in
        let soon = guarded (twin s) y o.0 p here (twin_right m good s (twin s) (same s) y h) marked o.1 in
        let known : IsKnownExecuted m s (table (twin s)) t p =
        record { observer = o.0; observes = o.1; executed = there; passed = omega arith } in
        subst (λ v. MarkFits v (full y p)) (sym (agrees p known)) (h p)
  ]

  backward : (s r : Scenario) (t : ℕ) → ((p : ℕ) → IsKnownExecuted m s (table (twin s)) t p → r p ≡ s p) → (n j p : ℕ) →
      rank m good j < n → Observes m.base j p → table (twin s) j ≤ t → IsExecuted m r j → IsExecuted m s j
  backward s r t agrees zero j p lt o by_then h = absurd (omega arith)
  backward s r t agrees (suc n) j p lt o by_then h =
      let possible : IsPossible (IsKnown m.base (table (twin s)) (table (twin s) j)) (twin s) (full j) = λ q k.
      elim (absent_or_not (full j q)) [
        | inl none ↦ fits_absent (twin s q) (full j q) none
        | inr marks ↦
            let soon = k.passed in
            let lower = rank_falls m good j p k.observer q o k.observes marks in
            let there = observers_executed m good r j k.observer q h k.observes marks in
            let seen = backward s r t agrees n k.observer q (omega arith) k.observes (omega arith) there in
            let known : IsKnownExecuted m s (table (twin s)) t q =
            record { observer = k.observer; observes = k.observes; executed = seen; passed = omega arith } in
            let value : r q ≡ twin s q = agrees q known ∙ sym (same s k.observer q k.observes seen) in
            subst (λ v. MarkFits v (full j q)) value (h q)
      ] in
      twin_left m good s (twin s) (same s) j
      (possible_executed m good table dynamic guarded (twin s) j (observer_within m.base j p o) possible)

  pub lowered_dynamic : IsLabelledDynamic m (λ s. table (twin s))
  lowered_dynamic s r x here h agrees =
      let t = table (twin s) x in
      let all : Agrees m.base (table (twin s)) (table (twin s) x) (twin s) (twin r) = λ p k.
      let soon = k.passed in
      elim (executed_or_not m good s k.observer) [
        | inl seen ↦
            let there = onward s r t agrees k.observer (observer_within m.base k.observer p k.observes) (omega arith) seen in
            same r k.observer p k.observes there
            ∙ agrees p (record { observer = k.observer; observes = k.observes; executed = seen; passed = k.passed })
            ∙ sym (same s k.observer p k.observes seen)
        | inr unseen ↦
            let not_there : IsExecuted m r k.observer → ⊥ = λ e. unseen (backward s r t agrees
            (suc (rank m good k.observer)) k.observer p (omega arith) k.observes (omega arith) e) in
            (defaulted r).rest k.observer p k.observes not_there ∙ sym ((defaulted s).rest k.observer p k.observes unseen)
      ] in
      (onward s r t agrees x here (omega arith) h, dynamic (twin s) (twin r) x here all)
