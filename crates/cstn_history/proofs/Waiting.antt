-- Until when a time-point can wait.
use Rattle.std.proofs.Common.{ℕ, zero, suc, ◌≡◌, inl, inr, ◌<◌, ◌≤◌, ◌∷◌, ◌++◌, [], None, true, arith, refl, sym, subst}
use Rattle.std.specs.Prelude.{◌↔◌, pos, ◌-ℤ◌}
use Rattle.std.proofs.lemmas.Int.{ints}
use Rattle.std.proofs.lemmas.List.Elements.{Contains-append_left, Contains-append_right, Contains-append_cases}
use Rattle.cstn_facts.proofs.Members.{contains_one}
use Rattle.cstn_label.specs.Labels.{Label, Scenario, Holds}
use Rattle.cstn_net.specs.Networks.{Constraint, Observes, count, limit}
use Rattle.cstn_net.specs.Strategies.{Table, Meets}
use Rattle.cstn_lift.specs.Labelled.{Labelled}
use Rattle.cstn_lift.specs.Completion.{completed}
use Rattle.cstn_lift.specs.WellFormed.{IsLabelled}
use Rattle.cstn_lift.specs.Strategies.{IsExecuted, IsInForce, IsKnownExecuted, IsLabelledStrategy, IsLabelledConsistent}
use Rattle.cstn_history.specs.Histories.{History, IsHistory}
use Rattle.cstn_history.specs.Continuations.{CanWait}
use Rattle.cstn_history.specs.Rest.{is_left, number_left, bare, rest, with_constraint, rest_waiting}
use Rattle.cstn_history.proofs.Settled.{as_told, told_itself, told_agrees}
use Rattle.cstn_history.proofs.Edited.{completed_new}
use Rattle.cstn_history.proofs.Forces.{bare_full}
use Rattle.cstn_history.proofs.ToRest.{executed_left, executed_back, to_rest, to_rest_strategy, at_coming, at_origin}
use Rattle.cstn_history.proofs.FromRest.{from_rest, from_rest_continues, at_origin as back_origin, at_coming as back_coming}

-- a labelled network with one constraint more has the same completed labels
module _ (R : Labelled) (d : Constraint) where
  abbrev more : Labelled
  more = with_constraint R d

  observes_more : (x p : ℕ) → Observes R.base x p → Observes more.base x p
  observes_more x p o = record { what = o.what }

  observes_less : (x p : ℕ) → Observes more.base x p → Observes R.base x p
  observes_less x p o = record { what = o.what }

  completed_more : (a : Label) → completed more a ≡ completed R a
  completed_more a = completed_new R R.base.deadline (R.base.constraints ++ d ∷ []) a

  executed_more : (s : Scenario) (x : ℕ) → IsExecuted R s x → IsExecuted more s x
  executed_more s x e = subst (Holds s) (sym (completed_more _)) e

  executed_less : (s : Scenario) (x : ℕ) → IsExecuted more s x → IsExecuted R s x
  executed_less s x e = subst (Holds s) (completed_more _) e

  force_more : (s : Scenario) (c : Constraint) → IsInForce R s c → IsInForce more s c
  force_more s c e = subst (Holds s) (sym (completed_more _)) e

  force_less : (s : Scenario) (c : Constraint) → IsInForce more s c → IsInForce R s c
  force_less s c e = subst (Holds s) (completed_more _) e

  limit_more : (x : ℕ) → limit more.base x ≡ limit R.base x
  limit_more zero = refl
  limit_more (suc x) = refl

  known_more : (s : Scenario) (table : Table) (t p : ℕ) → IsKnownExecuted R s (table s) t p → IsKnownExecuted more s (table s) t p
  known_more s table t p k = record {
    observer = k.observer;
    observes = observes_more k.observer p k.observes;
    executed = executed_more s k.observer k.executed;
    passed = k.passed;
  }

  known_less : (s : Scenario) (table : Table) (t p : ℕ) → IsKnownExecuted more s (table s) t p → IsKnownExecuted R s (table s) t p
  known_less s table t p k = record {
    observer = k.observer;
    observes = observes_less k.observer p k.observes;
    executed = executed_less s k.observer k.executed;
    passed = k.passed;
  }

  -- a strategy that meets one constraint more, where that is in force
  pub strategy_more : (table : Table) → IsLabelledStrategy R table → ((s : Scenario) → IsInForce R s d → Meets (table s) d) → IsLabelledStrategy more table
  strategy_more table plays met = record {
    within = λ s x here e. subst (λ l. table s x ≤ l) (sym (limit_more x)) (plays.within s x here (executed_less s x e));
    dynamic = λ s r x here e agrees.
        let both = plays.dynamic s r x here (executed_less s x e) (λ p k. agrees p (known_more s table (table s x) p k)) in
        (executed_more r x both.0, both.1);
    meets = λ s c has force. elim (Contains-append_cases R.base.constraints (d ∷ []) c has) [
      | inl old ↦ plays.meets s c old (force_less s c force)
      | inr new ↦
          let same = contains_one d c new in
          subst (Meets (table s)) same (met s (subst (IsInForce R s) (sym same) (force_less s c force)))
    ];
  }

  pub strategy_less : (table : Table) → IsLabelledStrategy more table → IsLabelledStrategy R table
  strategy_less table plays = record {
    within = λ s x here e. subst (λ l. table s x ≤ l) (limit_more x) (plays.within s x here (executed_more s x e));
    dynamic = λ s r x here e agrees.
        let both = plays.dynamic s r x here (executed_more s x e) (λ p k. agrees p (known_less s table (table s x) p k)) in
        (executed_less r x both.0, both.1);
    meets = λ s c has force. plays.meets s c (Contains-append_left R.base.constraints (d ∷ []) c has) (force_more s c force);
  }

  pub met_more : (table : Table) → IsLabelledStrategy more table → (s : Scenario) → IsInForce R s d → Meets (table s) d
  met_more table plays s force =
      plays.meets s d (Contains-append_right R.base.constraints (d ∷ []) d (0, omega arith, refl)) (force_more s d force)

module _ (m : Labelled) (h : History) (fresh x t : ℕ) (good : IsLabelled m) (known : IsHistory m h) (here : x < count m.base) (none : h.done x ≡ None)
    (left : is_left m h x ≡ true) where
  abbrev k : ℕ
  k = number_left m h x

  abbrev wait : Constraint
  wait = bare (number_left m h x) 0 (pos 0 -ℤ pos t)

  force_executed : (s : Scenario) → IsInForce (rest m h fresh) s wait → IsExecuted m (as_told h s) x
  force_executed s force =
      executed_back m h fresh good known s x here left (subst (Holds s) (bare_full m h fresh good known (number_left m h x) (pos 0 -ℤ pos t)) force)

  executed_force : (s : Scenario) → IsExecuted m (as_told h s) x → IsInForce (rest m h fresh) s wait
  executed_force s e =
      subst (Holds s) (sym (bare_full m h fresh good known (number_left m h x) (pos 0 -ℤ pos t))) (executed_left m h fresh good known s x here left e)

  waits : CanWait m h x t → IsLabelledConsistent (rest_waiting m h fresh x t)
  waits c = (
    to_rest m h fresh good known c.0 c.1,
    strategy_more (rest m h fresh) wait (to_rest m h fresh good known c.0 c.1) (to_rest_strategy m h fresh good known c.0 c.1) (λ s force.
        let late = c.2 (as_told h s) (told_agrees h s) (force_executed s force) in
        let at = at_coming m h fresh good known c.0 c.1 s x here left none in
        let origin = at_origin m h fresh good known c.0 c.1 s in
        omega (arith, ints)),
  )

  waits_back : IsLabelledConsistent (rest_waiting m h fresh x t) → CanWait m h x t
  waits_back c =
      let plays = strategy_less (rest m h fresh) wait c.0 c.1 in (
        from_rest m h fresh good known c.0 plays,
        from_rest_continues m h fresh good known c.0 plays,
        (λ s agrees e.
            let met = met_more (rest m h fresh) wait c.0 c.1 s (executed_force s (subst (λ r. IsExecuted m r x) (sym (told_itself h s agrees)) e)) in
            let at = back_coming m h fresh good known c.0 plays s x none in
            let origin = back_origin m h fresh good known c.0 plays s in
            omega (arith, ints)),
      )

  pub waits_both : CanWait m h x t ↔ IsLabelledConsistent (rest_waiting m h fresh x t)
  waits_both = (waits, waits_back)

pub waits_less : (m : Labelled) (h : History) (x t u : ℕ) → u ≤ t → CanWait m h x t → CanWait m h x u
waits_less m h x t u less c = (c.0, c.1, (λ s agrees e. let late = c.2 s agrees e in omega arith))
