-- What a bound says of a table.
use Rattle.std.specs.Prelude.{pos, ◌≤ℤ◌}
use Rattle.cstn_label.specs.Labels.{Scenario}
use Rattle.cstn_label.specs.Bounds.{Bound}
use Rattle.cstn_net.specs.Networks.{Network}
use Rattle.cstn_net.specs.Strategies.{Table, IsPossibleAt}

-- the bound's label is possible in the scenario s when its time-point is executed there
abbrev pub IsPossibleIn : Network → Table → Bound → Scenario → Type 0
IsPossibleIn net table b s = IsPossibleAt net (table s) (table s b.node) s b.label

-- a bound holds in a table where, in each scenario, its time-point is at `least` or later if its label is possible then
pub record HoldsIn (net : Network) (table : Table) (b : Bound) : Type 0 where
  pub holds : (s : Scenario) → IsPossibleIn net table b s → b.least ≤ℤ pos (table s b.node)
