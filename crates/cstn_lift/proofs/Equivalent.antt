-- A labelled network and its lowered one have the same moments.
use Rattle.std.proofs.Common.{ℕ, zero, suc, ◌≡◌, ◌⊎◌, inl, inr, ◌<◌, ◌≤◌, Option, Some, None, arith, refl, sym, subst, ap, ◌∙◌}
use Rattle.std.specs.Prelude.{Bool, false}
use Rattle.std.specs.List.{Contains}
use Rattle.std.proofs.lemmas.Int.{ints}
use Rattle.cstn_label.specs.Labels.{Scenario, Holds, MarkFits, IsWithin, joined}
use Rattle.cstn_label.proofs.MarkLemmas.{absent_or_not, fits_absent}
use Rattle.cstn_label.proofs.LabelLemmas.{holds_within, plain_from_holds, within_through}
use Rattle.std.proofs.lemmas.List.Elements.{All-contains}
use Rattle.cstn_net.specs.Networks.{Constraint, IsConstraint, IsOnObserved, count, limit}
use Rattle.cstn_net.specs.Strategies.{Table, IsDynamic, IsStrategy, IsLeast, Meets}
use Rattle.cstn_lift.specs.Labelled.{Labelled, label_of}
use Rattle.cstn_lift.specs.Completion.{completed_label, full_label, IsCompleteLabel}
use Rattle.cstn_lift.specs.WellFormed.{IsLabelled}
use Rattle.cstn_lift.specs.Lowered.{lowered, observer_of}
use Rattle.cstn_lift.specs.Strategies.{IsExecuted, IsLabelledStrategy, IsLabelledLeast, IsDefaulted, IsEquivalent}
use Rattle.cstn_lift.proofs.CompletionLemmas.{completed_contains, completed_complete, completed_least, within_left, within_right}
use Rattle.cstn_lift.proofs.FullLemmas.{full_within, completed_on, label_on, joined_on}
use Rattle.cstn_lift.proofs.Executed.{executed_or_not, observers_executed}
use Rattle.cstn_lift.proofs.Dichotomy.{IsGuarded}
use Rattle.cstn_lift.proofs.ToLabelled.{lowered_dynamic}
use Rattle.cstn_lift.proofs.ToPlain.{filled, filled_at, filled_upto, filled_dynamic, seen_marks}
use Rattle.cstn_lift.proofs.LoweredLemmas.{IsOfLowered, forced, guarded, only, observer_found}

pub limit_same : (m : Labelled) (x : ℕ) → limit (lowered m) x ≡ limit m.base x
limit_same m zero = refl
limit_same m (suc x) = refl

value_by : {A : Type 0} → (A ⊎ (A → ⊥)) → Bool → Bool → Bool
value_by (inl a) v w = v
value_by (inr b) v w = w

value_left : {A : Type 0} → (o : A ⊎ (A → ⊥)) (v w : Bool) → A → value_by o v w ≡ v
unfolding value_by
value_left (inl a) v w h = refl
value_left (inr b) v w h = absurd (b h)

value_right : {A : Type 0} → (o : A ⊎ (A → ⊥)) (v w : Bool) → (A → ⊥) → value_by o v w ≡ w
unfolding value_by
value_right (inl a) v w h = absurd (h a)
value_right (inr b) v w h = refl

value_same : {A : Type 0} → (o : A ⊎ (A → ⊥)) (v : Bool) → value_by o v v ≡ v
unfolding value_by
value_same (inl a) v = refl
value_same (inr b) v = refl

module _ (m : Labelled) (good : IsLabelled m) where
  -- the value of p in s, or in d where the observer of p isn't executed in s
  mixed_at : Scenario → Scenario → ℕ → Option ℕ → Bool
  mixed_at d s p None = s p
  mixed_at d s p (Some k) = value_by (executed_or_not m good s k) (s p) (d p)

  pub mixed : Scenario → Scenario → Scenario
  mixed d s p = mixed_at d s p (observer_of m.base p)

  pub mixed_defaulted : (d s : Scenario) → IsDefaulted m d s (mixed d s)
  unfolding mixed mixed_at
  mixed_defaulted d s = record {
    twins = λ j p o h. ap (mixed_at d s p) (observer_found m.base good.base.network j p o) ∙ value_left (executed_or_not m good s j) (s p) (d p) h;
    rest = λ j p o h. ap (mixed_at d s p) (observer_found m.base good.base.network j p o) ∙ value_right (executed_or_not m good s j) (s p) (d p) h;
  }

  own_at : (s : Scenario) (p : ℕ) (o : Option ℕ) → mixed_at s s p o ≡ s p
  unfolding mixed_at
  own_at s p None = refl
  own_at s p (Some k) = value_same (executed_or_not m good s k) (s p)

  own : (s : Scenario) (p : ℕ) → mixed s s p ≡ s p
  unfolding mixed
  own s p = own_at s p (observer_of m.base p)

  -- the full label of a constraint is complete, and the completed labels of the constraint's ends are within it
  pub full_closed : (c : Constraint) → IsCompleteLabel m (full_label m c)
  full_closed c = completed_complete m (joined c.label (joined (label_of m c.from) (label_of m c.to)))

  pub full_from : (c : Constraint) → IsWithin (completed_label m c.from) (full_label m c)
  full_from c =
      let ends = joined (label_of m c.from) (label_of m c.to) in
      let a = joined c.label ends in
      completed_least m (label_of m c.from) (full_label m c)
      (within_through (label_of m c.from) ends (full_label m c) (within_left (label_of m c.from) (label_of m c.to))
      (within_through ends a (full_label m c) (within_right c.label ends) (completed_contains m a))) (full_closed c)

  pub full_to : (c : Constraint) → IsWithin (completed_label m c.to) (full_label m c)
  full_to c =
      let ends = joined (label_of m c.from) (label_of m c.to) in
      let a = joined c.label ends in
      completed_least m (label_of m c.to) (full_label m c)
      (within_through (label_of m c.to) ends (full_label m c) (within_right (label_of m c.from) (label_of m c.to))
      (within_through ends a (full_label m c) (within_right c.label ends) (completed_contains m a))) (full_closed c)

  of_network : (c : Constraint) → Contains m.base.constraints c → IsConstraint m.base c
  of_network = λ c. All-contains (IsConstraint m.base) m.base.constraints c good.base.network.constraints

  pub full_observed : (c : Constraint) → Contains m.base.constraints c → IsOnObserved m.base (full_label m c)
  full_observed c has =
      let ends = joined (label_of m c.from) (label_of m c.to) in
      completed_on m (label_on m good) (joined c.label ends)
      (joined_on m.base c.label ends (of_network c has).observed
      (joined_on m.base (label_of m c.from) (label_of m c.to) (label_on m good c.from) (label_on m good c.to)))

  pub dynamic_base : (table : Table) → IsDynamic (lowered m) table → IsDynamic m.base table
  dynamic_base table dynamic s r x here agrees = dynamic s r x here (λ p k.
      agrees p (record { observer = k.observer; observes = record { what = k.observes.what }; passed = k.passed }))

  dynamic_lowered : (table : Table) → IsDynamic m.base table → IsDynamic (lowered m) table
  dynamic_lowered table dynamic s r x here agrees = dynamic s r x here (λ p k.
      agrees p (record { observer = k.observer; observes = record { what = k.observes.what }; passed = k.passed }))

  -- in a strategy of the lowered network, what the completed label of an executed time-point marks is known at its moment
  pub guards_met : (table : Table) → IsStrategy (lowered m) table → IsGuarded m table
  guards_met table strategy s x j p here h marked o =
      let g = guarded m good x j p here o marked in
      let b = g.2.between in
      let met = strategy.meets s g.0 g.1 (subst (λ a. Holds s a) (sym b.marks) h) in
      let value = b.value in
      let from_at : table s g.0.from ≡ table s x = ap (λ y. table s y) b.from in
      let to_at : table s g.0.to ≡ table s j = ap (λ y. table s y) b.to in
      omega (arith, ints)

  pub to_labelled : (table : Table) (d : Scenario) (twin : Scenario → Scenario) → IsStrategy (lowered m) table →
      ((s : Scenario) → IsDefaulted m d s (twin s)) → IsLabelledStrategy m (λ s. table (twin s))
  to_labelled table d twin strategy defaulted = record {
    within = λ s x here h. subst (λ n. table (twin s) x ≤ n) (limit_same m x) (strategy.within (twin s) x here);
    dynamic = lowered_dynamic m good table d twin (dynamic_base table strategy.dynamic) (guards_met table strategy) defaulted;
    meets = λ s c has h.
        let full = full_label m c in
        let f = forced m good c has (plain_from_holds s full h) in
        let b = f.2 in
        let there : Holds (twin s) full = λ p. elim (absent_or_not (full p)) [
          | inl none ↦ fits_absent (twin s p) (full p) none
          | inr marked ↦
              let o = full_observed c has p marked in
              let seen = holds_within s (completed_label m o.0) full (full_within m good full (full_closed c) o.0 p o.1 marked) h in
              subst (λ v. MarkFits v (full p)) (sym ((defaulted s).twins o.0 p o.1 seen)) (h p)
        ] in
        let met = strategy.meets (twin s) f.0 f.1 (subst (λ a. Holds (twin s) a) (sym b.marks) there) in
        let value = b.value in
        let from_at : table (twin s) f.0.from ≡ table (twin s) c.from = ap (λ y. table (twin s) y) b.from in
        let to_at : table (twin s) f.0.to ≡ table (twin s) c.to = ap (λ y. table (twin s) y) b.to in
        omega (arith, ints);
  }

  module _ (labelled : Table) (strategy : IsLabelledStrategy m labelled) where
    abbrev fill : Table
    fill = filled m good labelled strategy

    meets_one : (s : Scenario) (d : Constraint) → Holds s d.label → IsOfLowered m d → Meets (fill s) d
    meets_one s d h (inl f) =
        let c = f.0 in
        let b = f.3 in
        let h_c : Holds s (full_label m c) = subst (λ a. Holds s a) b.marks h in
        let met = strategy.meets s c f.1 h_c in
        let from_at = filled_at m good labelled strategy s c.from (holds_within s (completed_label m c.from) (full_label m c) (full_from c) h_c) in
        let to_at = filled_at m good labelled strategy s c.to (holds_within s (completed_label m c.to) (full_label m c) (full_to c) h_c) in
        let from_same : fill s d.from ≡ fill s c.from = ap (λ y. fill s y) b.from in
        let to_same : fill s d.to ≡ fill s c.to = ap (λ y. fill s y) b.to in
        let value = b.value in
        omega (arith, ints)
    meets_one s d h (inr g) =
        let x = g.0 in
        let j = g.1 in
        let p = g.2 in
        let b = g.3.between in
        let h_x : IsExecuted m s x = subst (λ a. Holds s a) b.marks h in
        let h_j = observers_executed m good s x j p h_x g.3.observes g.3.marked in
        let soon = seen_marks m good labelled strategy s x j p g.3.here h_x g.3.marked g.3.observes in
        let from_at = filled_at m good labelled strategy s x h_x in
        let to_at = filled_at m good labelled strategy s j h_j in
        let from_same : fill s d.from ≡ fill s x = ap (λ y. fill s y) b.from in
        let to_same : fill s d.to ≡ fill s j = ap (λ y. fill s y) b.to in
        let value = b.value in
        omega (arith, ints)

    pub to_plain : IsStrategy (lowered m) fill
    to_plain = record {
      within = λ s x here. subst (λ n. fill s x ≤ n) (sym (limit_same m x)) (filled_upto m good labelled strategy s x here);
      dynamic = dynamic_lowered fill (filled_dynamic m good labelled strategy);
      meets = λ s d has h. meets_one s d h (only m good d has);
    }

  -- a strategy of the lowered network has the same moments in s and in s with default values from s itself
  own_moment : (table : Table) → IsStrategy (lowered m) table → (s : Scenario) (x : ℕ) → x < count m.base → table (mixed s s) x ≡ table s x
  own_moment table strategy s x here = strategy.dynamic s (mixed s s) x here (λ p k. own s p)

  pub labelled_least : (s : Scenario) (x t : ℕ) → x < count m.base → IsExecuted m s x → IsLeast (lowered m) s x t → IsLabelledLeast m s x t
  labelled_least s x t here h least =
      let plain = least.reached in
      let table = plain.0 in
      let made = to_labelled table s (mixed s) plain.1 (mixed_defaulted s) in
      record {
        executed = h;
        reached = ((λ r. table (mixed s r)), made, own_moment table plain.1 s x here ∙ plain.2);
        least = λ labelled other.
            let below = least.least (fill labelled other) (to_plain labelled other) in
            let at = filled_at m good labelled other s x h in
            omega arith;
      }

  pub plain_least : (s : Scenario) (x t : ℕ) → x < count m.base → IsLabelledLeast m s x t → IsLeast (lowered m) s x t
  plain_least s x t here least =
      let reached = least.reached in
      let h = least.executed in
      record {
        reached = (fill reached.0 reached.1, to_plain reached.0 reached.1, filled_at m good reached.0 reached.1 s x h ∙ reached.2);
        least = λ table strategy.
            let below = least.least (λ r. table (mixed s r)) (to_labelled table s (mixed s) strategy (mixed_defaulted s)) in
            let same = own_moment table strategy s x here in
            omega arith;
      }

  pub equivalent_here : IsEquivalent m (lowered m)
  equivalent_here = record {
    consistent = (
      (λ labelled. (fill labelled.0 labelled.1, to_plain labelled.0 labelled.1)),
      (λ plain. ((λ s. plain.0 (mixed (λ p. false) s)), to_labelled plain.0 (λ p. false) (mixed (λ p. false)) plain.1 (mixed_defaulted (λ p. false)))),
    );
    least = λ s x t here h. (plain_least s x t here, labelled_least s x t here h);
  }

pub equivalent : (m : Labelled) → IsLabelled m → IsEquivalent m (lowered m)
equivalent m good = equivalent_here m good
