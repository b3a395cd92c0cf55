-- Scenarios of the observed propositions alone. There are 2 ^ k of them where k propositions are observed.
use Rattle.std.specs.Prelude.{ℕ, ◌≡◌, ◌<◌, ◌≤◌, Bool, true, ◌&&◌}
use Rattle.std.specs.List.{list_any, Contains}
use Rattle.cstn_label.specs.Labels.{Scenario, Holds}
use Rattle.cstn_net.specs.Networks.{Network, Constraint, Observes, count, limit, is_prop}
use Rattle.cstn_net.specs.Strategies.{Table, Agrees, Meets}

-- some time-point observes p
abbrev pub is_observed : Network → ℕ → Bool
is_observed net p = list_any (is_prop p) net.observes

-- a scenario of the network: only observed propositions are true in it
abbrev pub IsScenarioOf : Network → Scenario → Type 0
IsScenarioOf net s = (p : ℕ) → s p ≡ true → (x : ℕ) × Observes net x p

-- the scenario of the network that has the values of s for what is observed
abbrev pub observed_alone : Network → Scenario → Scenario
observed_alone net s = λ p. is_observed net p && s p

-- the rows of the network's scenarios are those of a strategy; no other row is looked at
pub record IsStrategyOnObserved (net : Network) (table : Table) : Type 0 where
  pub within : (s : Scenario) (x : ℕ) → IsScenarioOf net s → x < count net → table s x ≤ limit net x
  pub dynamic : (s r : Scenario) (x : ℕ) → IsScenarioOf net s → IsScenarioOf net r → x < count net →
      Agrees net (table s) (table s x) s r → table r x ≡ table s x
  pub meets : (s : Scenario) (c : Constraint) → IsScenarioOf net s → Contains net.constraints c → Holds s c.label →
      Meets (table s) c

-- t is the least moment of x in s, among the tables that are strategies on the network's scenarios
pub record IsLeastOnObserved (net : Network) (s : Scenario) (x t : ℕ) : Type 0 where
  pub reached : (table : Table) × IsStrategyOnObserved net table × (table s x ≡ t)
  pub least : (table : Table) → IsStrategyOnObserved net table → t ≤ table s x
