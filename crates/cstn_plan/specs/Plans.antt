-- Plans: networks, each with a list of bounds that is closed for it.
use Rattle.std.specs.Prelude.{ℕ, ◌<◌, ◌^◌, ◌↔◌, List, length, map}
use Rattle.cstn_label.specs.declared.bounds.Bound.{Bound}
use Rattle.cstn_label.specs.Bounds.{Bound as TheBound}
use Rattle.cstn_label.specs.Labels.{Scenario}
use Rattle.cstn_label.specs.Read.{the_bound}
use Rattle.cstn_net.specs.Networks.{Network, IsWellFormed, count}
use Rattle.cstn_net.specs.Strategies.{Table, IsStrategy, IsLeast}
use Rattle.cstn_net.specs.Read.{NetworkParts, the_network}
use Rattle.cstn_rules.specs.Closed.{IsClosed}
use Rattle.cstn_plan.specs.Asked.{IsHeldBack}

-- what contracts see of a plan: its network and its bounds
pub record PlanParts : Type 0 where
  pub net : NetworkParts
  pub bounds : List Bound

-- the bounds of a plan in memory, as the definitions have them
abbrev pub the_bounds : List Bound → List TheBound
the_bounds bounds = map the_bound bounds

-- the bounds are closed for the network, and can be counted in 32 bits
pub record IsPlan (net : NetworkParts) (bounds : List Bound) : Type 0 where
  pub well_formed : IsWellFormed (the_network net)
  pub closed : IsClosed (the_network net) (the_bounds bounds)
  pub few : length bounds < 2 ^ 32

-- the table is a strategy that has each time-point at its least moment, and at the first at which no bound holds it back
pub record IsEarliest (net : Network) (bounds : List TheBound) (table : Table) : Type 0 where
  pub strategy : IsStrategy net table
  pub least : (s : Scenario) (x : ℕ) → x < count net → IsLeast net s x (table s x)
  pub held : (s : Scenario) (t x : ℕ) → x < count net → IsHeldBack net bounds s (table s) t x ↔ (t < table s x)
