-- Labelled strategies on the network's own scenarios, those in which only observed propositions are true.
use Rattle.std.specs.Prelude.{ℕ, ◌≡◌, ◌<◌, ◌≤◌}
use Rattle.std.specs.List.{Contains}
use Rattle.cstn_label.specs.Labels.{Scenario}
use Rattle.cstn_net.specs.Networks.{Constraint, count, limit}
use Rattle.cstn_net.specs.Strategies.{Table, Meets}
use Rattle.cstn_net.specs.Scenarios.{IsScenarioOf, observed_alone}
use Rattle.cstn_lift.specs.Labelled.{Labelled}
use Rattle.cstn_lift.specs.Strategies.{IsExecuted, IsInForce, IsKnownExecuted}

-- an own scenario of the labelled network: only observed propositions are true in it
abbrev pub IsOwn : Labelled → Scenario → Type 0
IsOwn m s = IsScenarioOf m.base s

-- the own scenario that has the values of s for what is observed
abbrev pub own : Labelled → Scenario → Scenario
own m s = observed_alone m.base s

-- the rows of the own scenarios are those of a labelled strategy; no other row is looked at
pub record IsLabelledStrategyOnObserved (m : Labelled) (table : Table) : Type 0 where
  pub within : (s : Scenario) (x : ℕ) → IsOwn m s → x < count m.base → IsExecuted m s x → table s x ≤ limit m.base x
  pub dynamic : (s r : Scenario) (x : ℕ) → IsOwn m s → IsOwn m r → x < count m.base → IsExecuted m s x →
      ((p : ℕ) → IsKnownExecuted m s (table s) (table s x) p → r p ≡ s p) → IsExecuted m r x × (table r x ≡ table s x)
  pub meets : (s : Scenario) (c : Constraint) → IsOwn m s → Contains m.base.constraints c → IsInForce m s c → Meets (table s) c

-- t is the least moment of x in s, where x is executed, among the tables that are labelled strategies on the own scenarios
pub record IsLabelledLeastOnObserved (m : Labelled) (s : Scenario) (x t : ℕ) : Type 0 where
  pub executed : IsExecuted m s x
  pub reached : (table : Table) × IsLabelledStrategyOnObserved m table × (table s x ≡ t)
  pub least : (table : Table) → IsLabelledStrategyOnObserved m table → t ≤ table s x

-- in the own scenarios, the two tables have the same moments of the time-points that are executed there
abbrev pub AreAlike : Labelled → Table → Table → Type 0
AreAlike m a b = (s : Scenario) (x : ℕ) → IsOwn m s → x < count m.base → IsExecuted m s x → b s x ≡ a s x
