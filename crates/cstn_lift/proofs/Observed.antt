-- Labelled strategies on the network's own scenarios, and labelled strategies on all scenarios: one exists where the other does,
-- with the same least moments. Only the moments of executed time-points count.
use Rattle.std.proofs.Common.{ℕ, ◌≡◌, ◌<◌, ◌≤◌, arith, sym, subst, ap, ◌∙◌}
use Rattle.std.specs.Prelude.{◌↔◌}
use Rattle.std.proofs.lemmas.Int.{ints}
use Rattle.std.proofs.lemmas.List.Elements.{All-contains}
use Rattle.cstn_label.specs.Labels.{Scenario}
use Rattle.cstn_label.proofs.LabelLemmas.{holds_within}
use Rattle.cstn_net.specs.Networks.{IsConstraint, count, limit}
use Rattle.cstn_net.specs.Strategies.{Table}
use Rattle.cstn_net.proofs.Knowledge.{observer_within}
use Rattle.cstn_net.proofs.Observed.{kept_value, is_own, own_same, own_holds}
use Rattle.cstn_lift.specs.Labelled.{Labelled}
use Rattle.cstn_lift.specs.Completion.{completed_label, full_label}
use Rattle.cstn_lift.specs.WellFormed.{IsLabelled}
use Rattle.cstn_lift.specs.Strategies.{IsExecuted, IsLabelledStrategy, IsLabelledConsistent, IsLabelledLeast, AreTwins}
use Rattle.cstn_lift.specs.Scenarios.{IsOwn, own, IsLabelledStrategyOnObserved, IsLabelledLeastOnObserved, AreAlike}
use Rattle.cstn_lift.proofs.Executed.{twin_right}
use Rattle.cstn_lift.proofs.Equivalent.{full_observed, full_from, full_to}
use Rattle.cstn_lift.proofs.Twins.{least_along}

pub one_least : (m : Labelled) (s : Scenario) (x t u : ℕ) → IsLabelledLeast m s x t → IsLabelledLeast m s x u → t ≡ u
one_least m s x t u here there =
    let upto = here.least there.reached.0 there.reached.1 in
    let downto = there.least here.reached.0 here.reached.1 in
    let at_t = here.reached.2 in
    let at_u = there.reached.2 in
    omega arith

-- a scenario and its own one agree on what is observed
observed_twins : (m : Labelled) (s : Scenario) → AreTwins m s (own m s)
observed_twins m s j p o h = kept_value m.base s j p o

own_twins : (m : Labelled) (s : Scenario) → AreTwins m (own m s) s
own_twins m s j p o h = sym (kept_value m.base s j p o)

-- a least moment rests on the observed propositions alone
pub least_on_observed : (m : Labelled) (s : Scenario) (x t : ℕ) → x < count m.base →
    IsLabelledLeast m s x t ↔ IsLabelledLeast m (own m s) x t
least_on_observed m s x t here =
    (least_along m s (own m s) x t (observed_twins m s) here, least_along m (own m s) s x t (own_twins m s) here)

-- a labelled strategy is also one on the network's scenarios alone
pub restricted : (m : Labelled) (table : Table) → IsLabelledStrategy m table → IsLabelledStrategyOnObserved m table
restricted m table strategy = record {
  within = λ s x of here h. strategy.within s x here h;
  dynamic = λ s r x of_s of_r here h agrees. strategy.dynamic s r x here h agrees;
  meets = λ s c of has force. strategy.meets s c has force;
}

-- the table that looks at the observed propositions alone
abbrev pub spread : Labelled → Table → Table
spread m table = λ s. table (own m s)

module _ (m : Labelled) (good : IsLabelled m) where
  executed_own : (s : Scenario) (x : ℕ) → IsExecuted m s x → IsExecuted m (own m s) x
  executed_own s x h = twin_right m good s (own m s) (observed_twins m s) x h

  executed_back : (s : Scenario) (x : ℕ) → IsExecuted m (own m s) x → IsExecuted m s x
  executed_back s x h = twin_right m good (own m s) s (own_twins m s) x h

  -- which time-points are executed rests on the observed propositions alone
  pub executed_on_observed : (s : Scenario) (x : ℕ) → IsExecuted m s x ↔ IsExecuted m (own m s) x
  executed_on_observed s x = (executed_own s x, executed_back s x)

  pub spread_strategy : (table : Table) → IsLabelledStrategyOnObserved m table → IsLabelledStrategy m (spread m table)
  spread_strategy table strategy = record {
    within = λ s x here h. strategy.within (own m s) x (is_own m.base s) here (executed_own s x h);
    dynamic = λ s r x here h agrees.
        let both = strategy.dynamic (own m s) (own m r) x (is_own m.base s) (is_own m.base r) here (executed_own s x h) (λ p k.
        let seen = executed_back s k.observer k.executed in
        kept_value m.base r k.observer p k.observes
        ∙ agrees p (record { observer = k.observer; observes = k.observes; executed = seen; passed = k.passed })
        ∙ sym (kept_value m.base s k.observer p k.observes)) in
        (executed_back r x both.0, both.1);
    meets = λ s c has force.
        strategy.meets (own m s) c (is_own m.base s) has (own_holds m.base s (full_label m c) (full_observed m good c has) force);
  }

  pub same_consistent : IsLabelledConsistent m ↔ ((table : Table) × IsLabelledStrategyOnObserved m table)
  same_consistent = (
    (λ c. (c.0, restricted m c.0 c.1)),
    (λ c. (spread m c.0, spread_strategy c.0 c.1)),
  )

  pub same_least : (s : Scenario) (x t : ℕ) → IsOwn m s → IsLabelledLeast m s x t ↔ IsLabelledLeastOnObserved m s x t
  same_least s x t is_of = (
    (λ h. record {
      executed = h.executed;
      reached = (h.reached.0, restricted m h.reached.0 h.reached.1, h.reached.2);
      least = λ table strategy.
          subst (λ r. t ≤ table r x) (own_same m.base s is_of) (h.least (spread m table) (spread_strategy table strategy));
    }),
    (λ h. record {
      executed = h.executed;
      reached = (
        spread m h.reached.0,
        spread_strategy h.reached.0 h.reached.1,
        ap (λ r. h.reached.0 r x) (own_same m.base s is_of) ∙ h.reached.2,
      );
      least = λ table strategy. h.least table (restricted m table strategy);
    }),
  )

  -- a table with the moments of a strategy, for the time-points that are executed, is a strategy
  pub alike_strategy : (table other : Table) → AreAlike m table other → IsLabelledStrategyOnObserved m table →
      IsLabelledStrategyOnObserved m other
  alike_strategy table other same strategy = record {
    within = λ s x of here h.
        let at = same s x of here h in
        let upto = strategy.within s x of here h in
        subst (λ t. t ≤ limit m.base x) (sym at) upto;
    dynamic = λ s r x of of_r here h agrees.
        let at = same s x of here h in
        let both = strategy.dynamic s r x of of_r here h (λ p k.
        let soon = k.passed in
        let at_observer = same s k.observer of (observer_within m.base k.observer p k.observes) k.executed in
        agrees p (record { observer = k.observer; observes = k.observes; executed = k.executed; passed = omega arith })) in
        (both.0, same r x of_r here both.0 ∙ both.1 ∙ sym at);
    meets = λ s c of has force.
        let ends = All-contains (IsConstraint m.base) m.base.constraints c good.base.network.constraints has in
        let met = strategy.meets s c of has force in
        let at_from = same s c.from of ends.from (holds_within s (completed_label m c.from) (full_label m c) (full_from m good c) force) in
        let at_to = same s c.to of ends.to (holds_within s (completed_label m c.to) (full_label m c) (full_to m good c) force) in
        omega (arith, ints);
  }
