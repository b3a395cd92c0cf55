-- A labelled strategy, read as a plain table: the moment of a time-point that isn't executed is its limit.
use Rattle.std.proofs.Common.{ℕ, ◌≡◌, ◌⊎◌, inl, inr, ◌+◌, ◌<◌, ◌≤◌, arith, refl, subst, ap}
use Rattle.std.specs.Prelude.{Bool, cond, eqb, not}
use Rattle.std.proofs.lemmas.Bool.{cases_lt, cases_eq, eq-eqb, ne_eqb}
use Rattle.cstn_label.specs.declared.marks.Mark.{Mark}
use Rattle.cstn_label.specs.declared.marks.Mark.TheVariants.{Absent}
use Rattle.cstn_label.specs.Labels.{Scenario, MarkFits, IsMarked}
use Rattle.cstn_net.specs.Networks.{Observes, count, limit}
use Rattle.cstn_net.specs.Strategies.{Table, IsDynamic, IsNeverLater}
use Rattle.cstn_net.proofs.Dynamic.{dynamic_from_one_side}
use Rattle.cstn_lift.specs.Labelled.{Labelled}
use Rattle.cstn_lift.specs.Completion.{completed_label}
use Rattle.cstn_lift.specs.WellFormed.{IsLabelled}
use Rattle.cstn_lift.specs.Strategies.{IsExecuted, IsLabelledStrategy}
use Rattle.cstn_lift.proofs.Executed.{executed_or_not}

-- the scenario s with the other value of p
turned : Scenario → ℕ → Scenario
turned s p = λ q. cond (eqb q p) (not (s q)) (s q)

turned_same : (s : Scenario) (p q : ℕ) → (q ≡ p → ⊥) → turned s p q ≡ s q
unfolding turned
turned_same s p q h = rw (ne_eqb q p h) refl

turned_there : (s : Scenario) (p : ℕ) → turned s p p ≡ not (s p)
unfolding turned
turned_there s p = rw (eq-eqb p p refl) refl

fits_both : (v : Bool) (a : Mark) → MarkFits v a → MarkFits (not v) a → a ≡ Absent
fits_both v a h k = grind arith

pick : {A B : Type 0} → (A ⊎ B) → ℕ → ℕ → ℕ
pick (inl a) x y = x
pick (inr b) x y = y

pick_left : {A : Type 0} → (o : A ⊎ (A → ⊥)) (x y : ℕ) → A → pick o x y ≡ x
unfolding pick
pick_left (inl a) x y h = refl
pick_left (inr b) x y h = absurd (b h)

pick_right : {A : Type 0} → (o : A ⊎ (A → ⊥)) (x y : ℕ) → (A → ⊥) → pick o x y ≡ y
unfolding pick
pick_right (inl a) x y h = absurd (h a)
pick_right (inr b) x y h = refl

pick_upto : {A : Type 0} → (o : A ⊎ (A → ⊥)) (x y : ℕ) → (A → x ≤ y) → pick o x y ≤ y
unfolding pick
pick_upto (inl a) x y h = h a
pick_upto (inr b) x y h = omega arith

module _ (m : Labelled) (good : IsLabelled m) (labelled : Table) (strategy : IsLabelledStrategy m labelled) where
  pub filled : Table
  filled s x = pick (executed_or_not m good s x) (labelled s x) (limit m.base x)

  pub filled_at : (s : Scenario) (x : ℕ) → IsExecuted m s x → filled s x ≡ labelled s x
  unfolding filled
  filled_at s x h = pick_left (executed_or_not m good s x) (labelled s x) (limit m.base x) h

  pub filled_upto : (s : Scenario) (x : ℕ) → x < count m.base → filled s x ≤ limit m.base x
  unfolding filled
  filled_upto s x here = pick_upto (executed_or_not m good s x) (labelled s x) (limit m.base x) (strategy.within s x here)

  filled_last : (s : Scenario) (x : ℕ) → (IsExecuted m s x → ⊥) → filled s x ≡ limit m.base x
  unfolding filled
  filled_last s x h = pick_right (executed_or_not m good s x) (labelled s x) (limit m.base x) h

  -- what the completed label of an executed time-point marks is known at its moment
  pub seen_marks : (s : Scenario) (x j p : ℕ) → x < count m.base → IsExecuted m s x → IsMarked (completed_label m x) p →
      Observes m.base j p → labelled s j + m.base.reaction p ≤ labelled s x
  seen_marks s x j p here h marked o = elim (cases_lt (labelled s x) (labelled s j + m.base.reaction p)) [
    | inr soon ↦ soon
    | inl late ↦
        let both = strategy.dynamic s (turned s p) x here h (λ q k. elim (cases_eq q p) [
          | inl e ↦
              let o_q : Observes m.base k.observer p = subst (λ r. Observes m.base k.observer r) e k.observes in
              let one = good.base.network.one_observer k.observer j p o_q o in
              let soon = k.passed in
              let at : labelled s k.observer ≡ labelled s j = ap (λ y. labelled s y) one in
              let reacts : m.base.reaction q ≡ m.base.reaction p = ap (λ y. m.base.reaction y) e in
              absurd (omega arith)
          | inr other ↦ turned_same s p q other
        ]) in
        let round : MarkFits (not (s p)) (completed_label m x p) =
        subst (λ v. MarkFits v (completed_label m x p)) (turned_there s p) (both.0 p) in
        absurd (marked (fits_both (s p) (completed_label m x p) (h p) round))
  ]

  never_later : IsNeverLater m.base filled
  never_later s r x here agrees = elim (executed_or_not m good s x) [
    | inl seen ↦
        let e = filled_at s x seen in
        let both = strategy.dynamic s r x here seen (λ p k.
        let k_at = filled_at s k.observer k.executed in
        let soon = k.passed in
        agrees p (record { observer = k.observer; observes = k.observes; passed = omega arith })) in
        let e_r = filled_at r x both.0 in
        let e_l = both.1 in
        omega arith
    | inr unseen ↦
        let last = filled_last s x unseen in
        let upto = filled_upto r x here in
        omega arith
  ]

  pub filled_dynamic : IsDynamic m.base filled
  filled_dynamic = dynamic_from_one_side m.base filled good.base.network never_later
