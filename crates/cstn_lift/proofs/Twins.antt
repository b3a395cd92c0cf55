-- What scenarios that agree on what is observed in one of them have in common, and labelled strategies made from plain ones.
use Rattle.std.proofs.Common.{ℕ, ◌≡◌, inl, inr, ◌<◌, arith, sym, subst, ◌∙◌}
use Rattle.std.specs.Prelude.{◌↔◌}
use Rattle.cstn_label.specs.Labels.{Scenario, IsMarked, IsPossible}
use Rattle.cstn_net.specs.Networks.{Constraint, count}
use Rattle.cstn_net.specs.Strategies.{Table, IsKnown, IsStrategy, IsLeast}
use Rattle.cstn_lift.specs.Labelled.{Labelled}
use Rattle.cstn_lift.specs.Completion.{completed_label, IsCompleteLabel}
use Rattle.cstn_lift.specs.WellFormed.{IsLabelled}
use Rattle.cstn_lift.specs.Lowered.{lowered}
use Rattle.cstn_lift.specs.Strategies.{IsExecuted, IsLabelledStrategy, IsLabelledLeast, IsDefaulted, AreTwins}
use Rattle.cstn_lift.proofs.CompletionLemmas.{completed_complete}
use Rattle.cstn_lift.proofs.FullLemmas.{full_on}
use Rattle.cstn_lift.proofs.Executed.{twin_right, twin_left}
use Rattle.cstn_lift.proofs.Dichotomy.{marks_seen, possible_executed}
use Rattle.cstn_lift.proofs.LoweredLemmas.{IsOfLowered}
use Rattle.cstn_lift.proofs.Equivalent.{full_closed, dynamic_base, guards_met, labelled_least}

pub twin_moment : (m : Labelled) (table : Table) (s r : Scenario) (x : ℕ) → IsLabelledStrategy m table → AreTwins m s r → x < count m.base →
    IsExecuted m s x → table r x ≡ table s x
twin_moment m table s r x strategy same here h = (strategy.dynamic s r x here h (λ p k. same k.observer p k.observes k.executed)).1

-- a least moment in s is one in each scenario that agrees with s on what is observed in s
pub least_along : (m : Labelled) (s r : Scenario) (x t : ℕ) → AreTwins m s r → x < count m.base → IsLabelledLeast m s x t → IsLabelledLeast m r x t
least_along m s r x t same here least =
    let a = least.reached in
    let h = least.executed in
    record {
      executed = (a.1.dynamic s r x here h (λ p k. same k.observer p k.observes k.executed)).0;
      reached = (a.0, a.1, twin_moment m a.0 s r x a.1 same here h ∙ a.2);
      least = λ table strategy.
          let at = twin_moment m table s r x strategy same here h in
          let below = least.least table strategy in
          omega arith;
    }

pub twins_back : (m : Labelled) → IsLabelled m → (s r : Scenario) → AreTwins m s r → AreTwins m r s
twins_back m good s r same j p o h = sym (same j p o (twin_left m good s r same j h))

pub twin_least : (m : Labelled) → IsLabelled m → (s r : Scenario) (x t : ℕ) → AreTwins m s r → x < count m.base →
    (IsLabelledLeast m s x t ↔ IsLabelledLeast m r x t)
twin_least m good s r x t same here = (least_along m s r x t same here, least_along m r s x t (twins_back m good s r same) here)

module _ (m : Labelled) (good : IsLabelled m) (table : Table) (strategy : IsStrategy (lowered m) table) (s : Scenario) (x : ℕ)
    (here : x < count m.base) (possible : IsPossible (IsKnown (lowered m) (table s) (table s x)) s (completed_label m x)) where
  possible_base : IsPossible (IsKnown m.base (table s) (table s x)) s (completed_label m x)
  possible_base p k = possible p (record { observer = k.observer; observes = record { what = k.observes.what }; passed = k.passed })

  pub decided_executed : IsExecuted m s x
  decided_executed =
      possible_executed m good table (dynamic_base m good table strategy.dynamic) (guards_met m good table strategy) s x here possible_base

  pub decided_known : (p : ℕ) → IsMarked (completed_label m x) p → IsKnown (lowered m) (table s) (table s x) p
  decided_known p marked =
      let o = full_on m good x p marked in
      let seen = marks_seen m good table (dynamic_base m good table strategy.dynamic) (guards_met m good table strategy) s x here possible_base o.0 p o.1 marked in
      record { observer = o.0; observes = record { what = o.1.what }; passed = seen.0 }

-- the least moments of the lowered network, in scenarios with default values, are the least of the labelled one
pub defaulted_least : (m : Labelled) (table : Table) (d : Scenario) (twin : Scenario → Scenario) → IsLabelled m →
    ((s : Scenario) → IsDefaulted m d s (twin s)) → ((s : Scenario) (x : ℕ) → x < count m.base → IsLeast (lowered m) s x (table s x)) →
    (s : Scenario) (x : ℕ) → x < count m.base → IsExecuted m s x → IsLabelledLeast m s x (table (twin s) x)
defaulted_least m table d twin good defaulted least s x here h =
    let same = (defaulted s).twins in
    let there = twin_right m good s (twin s) same x h in
    least_along m (twin s) s x (table (twin s) x) (twins_back m good s (twin s) same) here
    (labelled_least m good (twin s) x (table (twin s) x) here there (least (twin s) x here))

-- each label of the lowered network is complete
pub lowered_complete : (m : Labelled) → IsLabelled m → (d : Constraint) → IsOfLowered m d → IsCompleteLabel m d.label
lowered_complete m good d (inl f) = subst (IsCompleteLabel m) (sym f.3.marks) (full_closed m good f.0)
lowered_complete m good d (inr g) = subst (IsCompleteLabel m) (sym g.3.between.marks) (completed_complete m _)
