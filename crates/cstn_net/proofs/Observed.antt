-- Strategies on the network's own scenarios, and strategies on all scenarios: one exists where the other does, with the same
-- least moments.
use Rattle.std.proofs.Common.{ℕ, zero, suc, ◌≡◌, ◌<◌, ◌≤◌, Bool, true, false, ◌&&◌, ◌||◌, inl, inr, List, [], ◌∷◌, Option, Some, None, get_or, arith, refl, sym, subst, ap, ◌∙◌}
use Rattle.std.specs.Prelude.{◌↔◌}
use Rattle.std.specs.List.{list_any}
use Rattle.std.proofs.Math.Path.{fun_ext}
use Rattle.std.proofs.lemmas.Bool.{eqb-true, eq-eqb, and_parts, cases_Bool, or_left, or_right}
use Rattle.std.proofs.lemmas.List.Elements.{All-contains}
use Rattle.cstn_label.specs.Labels.{Scenario, Label, Holds, MarkFits}
use Rattle.cstn_label.proofs.MarkLemmas.{absent_or_not, fits_absent}
use Rattle.cstn_net.specs.Networks.{Network, IsNetwork, IsConstraint, Observes, IsOnObserved, count, is_prop}
use Rattle.cstn_net.specs.Strategies.{Table, IsStrategy, IsConsistent, IsLeast}
use Rattle.cstn_net.specs.Scenarios.{is_observed, IsScenarioOf, observed_alone, IsStrategyOnObserved, IsLeastOnObserved}
use Rattle.cstn_net.proofs.Dynamic.{same_moments}

pub prop_true : (p : ℕ) (o : Option ℕ) → is_prop p o ≡ true → o ≡ Some p
prop_true p None e = cc
prop_true p (Some q) e = ap (λ n. Some n) (eqb-true q p e)

pub true_prop : (p : ℕ) (o : Option ℕ) → o ≡ Some p → is_prop p o ≡ true
true_prop p None e = cc
true_prop p (Some q) e = subst (λ v. is_prop p v ≡ true) (sym e) (eq-eqb p p refl)

or_rest : (b c : Bool) → b ≡ false → (b || c) ≡ true → c ≡ true
or_rest b c n e = grind arith

-- where a test on the list finds p, some place has it, and the other way round
pub place_of : (os : List (Option ℕ)) (p : ℕ) → list_any (is_prop p) os ≡ true → (x : ℕ) × (get_or os x None ≡ Some p)
place_of [] p e = cc
place_of (o ∷ os) p e = elim (cases_Bool (is_prop p o)) [
  | inl here ↦ (zero, prop_true p o here)
  | inr other ↦
      let rest = place_of os p (or_rest (is_prop p o) (list_any (is_prop p) os) other e) in
      (suc rest.0, rest.1)
]

found_at : (os : List (Option ℕ)) (p x : ℕ) → get_or os x None ≡ Some p → list_any (is_prop p) os ≡ true
found_at [] p x e = cc
found_at (o ∷ os) p zero e = or_left (is_prop p o) (list_any (is_prop p) os) (true_prop p o e)
found_at (o ∷ os) p (suc x) e = or_right (is_prop p o) (list_any (is_prop p) os) (found_at os p x e)

module _ (net : Network) where
  -- an observed proposition keeps its value in `observed_alone`
  pub kept_value : (s : Scenario) (x p : ℕ) → Observes net x p → observed_alone net s p ≡ s p
  kept_value s x p o = ap (λ b. b && s p) (found_at net.observes p x o.what)

  -- `observed_alone` gives a scenario of the network
  pub is_own : (s : Scenario) → IsScenarioOf net (observed_alone net s)
  is_own s p e =
      let found = place_of net.observes p (and_parts (is_observed net p) (s p) e).0 in
      (found.0, record { what = found.1 })

  -- `observed_alone` leaves a scenario of the network as it is
  pub own_same : (s : Scenario) → IsScenarioOf net s → observed_alone net s ≡ s
  own_same s own = fun_ext (λ p. elim (cases_Bool (s p)) [
    | inl so ↦ kept_value s (own p so).0 p (own p so).1
    | inr other ↦ both_false (is_observed net p) (s p) other
  ])
    where
      both_false : (b c : Bool) → c ≡ false → (b && c) ≡ c
      both_false b c e = grind arith

  -- a label on observed propositions that holds in a scenario holds in its `observed_alone`
  pub own_holds : (s : Scenario) (a : Label) → IsOnObserved net a → Holds s a → Holds (observed_alone net s) a
  own_holds s a observed holds p = elim (absent_or_not (a p)) [
    | inl gone ↦ fits_absent (observed_alone net s p) (a p) gone
    | inr marked ↦
        let o = observed p marked in
        subst (λ v. MarkFits v (a p)) (sym (kept_value s o.0 p o.1)) (holds p)
  ]

  -- a strategy is also one on the network's scenarios alone
  pub restricted : (table : Table) → IsStrategy net table → IsStrategyOnObserved net table
  restricted table h = record {
    within = λ s x own here. h.within s x here;
    dynamic = λ s r x one other here agrees. h.dynamic s r x here agrees;
    meets = λ s c own has holds. h.meets s c has holds;
  }

  -- the table that looks at the observed propositions alone
  abbrev pub spread : Table → Table
  spread table = λ s. table (observed_alone net s)

  pub spread_strategy : IsNetwork net → (table : Table) → IsStrategyOnObserved net table → IsStrategy net (spread table)
  spread_strategy good table h = record {
    within = λ s x here. h.within (observed_alone net s) x (is_own s) here;
    dynamic = λ s r x here agrees.
        h.dynamic (observed_alone net s) (observed_alone net r) x (is_own s) (is_own r) here
        (λ p k. kept_value r k.observer p k.observes ∙ agrees p k ∙ sym (kept_value s k.observer p k.observes));
    meets = λ s c has holds.
        h.meets (observed_alone net s) c (is_own s) has
        (own_holds s c.label (All-contains (IsConstraint net) net.constraints c good.constraints has).observed holds);
  }

  pub same_consistent : IsNetwork net → IsConsistent net ↔ ((table : Table) × IsStrategyOnObserved net table)
  same_consistent good = (
    (λ c. (c.0, restricted c.0 c.1)),
    (λ c. (spread c.0, spread_strategy good c.0 c.1)),
  )

  pub same_least : IsNetwork net → (s : Scenario) (x t : ℕ) → IsScenarioOf net s →
      IsLeast net s x t ↔ IsLeastOnObserved net s x t
  same_least good s x t own = (
    (λ h. record {
      reached = (h.reached.0, restricted h.reached.0 h.reached.1, h.reached.2);
      least = λ table strategy.
          subst (λ r. t ≤ table r x) (own_same s own) (h.least (spread table) (spread_strategy good table strategy));
    }),
    (λ h. record {
      reached = (
        spread h.reached.0,
        spread_strategy good h.reached.0 h.reached.1,
        ap (λ r. h.reached.0 r x) (own_same s own) ∙ h.reached.2,
      );
      least = λ table strategy. h.least table (restricted table strategy);
    }),
  )

  -- a least moment rests on the observed propositions alone
  pub least_on_observed : (s : Scenario) (x t : ℕ) → x < count net → IsLeast net s x t ↔ IsLeast net (observed_alone net s) x t
  least_on_observed s x t here = (
    (λ h. record {
      reached = (h.reached.0, h.reached.1, alike h.reached.0 h.reached.1 ∙ h.reached.2);
      least = λ table strategy. subst (λ u. t ≤ u) (sym (alike table strategy)) (h.least table strategy);
    }),
    (λ h. record {
      reached = (h.reached.0, h.reached.1, sym (alike h.reached.0 h.reached.1) ∙ h.reached.2);
      least = λ table strategy. subst (λ u. t ≤ u) (alike table strategy) (h.least table strategy);
    }),
  )
    where
      alike : (table : Table) → IsStrategy net table → table (observed_alone net s) x ≡ table s x
      alike table strategy =
          same_moments net table s (observed_alone net s) x strategy.dynamic here (λ y p o. kept_value s y p o)
