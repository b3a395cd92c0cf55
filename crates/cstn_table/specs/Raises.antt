-- Moments that every strategy has to keep, and what raises them.
use Rattle.std.specs.Prelude.{ℕ, ◌≡◌, ◌+◌, ◌-◌, ◌*◌, ◌^◌, ◌<◌, ◌≤◌, Bool, true, false, List, [], ◌∷◌, length}
use Rattle.std.specs.List.{Contains}
use Rattle.cstn_label.specs.declared.props.Prop.{Prop}
use Rattle.cstn_label.specs.Labels.{Scenario, Holds}
use Rattle.cstn_net.specs.Limits.{most_deadline}
use Rattle.cstn_net.specs.Networks.{Network, Constraint, count}
use Rattle.cstn_net.specs.Strategies.{Table, Agrees, IsTable, IsStrategy, IsLeast, Meets}
use Rattle.cstn_table.specs.Tables.{observed_props, scenario_of, row_at, table_of_rows}
use Rattle.cstn_table.specs.Read.{TableParts, numbers, the_table}

-- every strategy has x at t or later in the scenario
abbrev pub IsForced : Network → Scenario → ℕ → ℕ → Type 0
IsForced net s x t = (table : Table) → IsStrategy net table → t ≤ table s x

-- a table is below the strategies: every strategy has every time-point at the table's moment or later
abbrev pub IsBelow : Network → Table → Type 0
IsBelow net low = (s : Scenario) (x : ℕ) → x < count net → IsForced net s x (low s x)

-- how many rows there are
abbrev pub rows : Network → ℕ
rows net = 2 ^ length (observed_props net.observes)

-- the propositions are the observed ones, 8 at most
pub record AreObserved (net : Network) (props : List Prop) : Type 0 where
  pub all : numbers props ≡ observed_props net.observes
  pub few : length props ≤ 8

-- the moments, in 256 rows at most, are of a table within the limits and below the strategies
pub record IsLow (net : Network) (moments : List ℕ) : Type 0 where
  pub few : rows net ≤ 256
  pub sized : length moments ≡ rows net * count net
  pub within : IsTable net (table_of_rows net moments)
  pub below : IsBelow net (table_of_rows net moments)

-- how far the moments can rise, added up over all of them
abbrev pub room : List ℕ → ℕ
room [] = 0
room (t ∷ ts) = (most_deadline - t) + room ts

-- what is true after a walk over the moments: they are low; where `raised`, one has risen, so there is less room; otherwise
-- all stayed, and `Quiet` holds, which says that nothing the walk looked at raises a moment
pub record IsWalk (net : Network) (Quiet : List ℕ → Type 0) (before now : List ℕ) (raised : Bool) : Type 0 where
  pub low : IsLow net now
  pub rises : raised ≡ true → room now < room before
  pub stays : raised ≡ false → now ≡ before
  pub quiet : raised ≡ false → Quiet now

-- in the row, the constraint is met if its label holds there
abbrev pub MeetsIn : Network → ℕ → Constraint → List ℕ → Type 0
MeetsIn net row c moments =
    Holds (scenario_of (observed_props net.observes) row) c.label → Meets (row_at (count net) moments row) c

-- no time-point is later in the row `other` than in this row, where the scenario of `other` agrees with what is known in this
-- row when the time-point is executed
abbrev pub IsNoLater : Network → ℕ → ℕ → List ℕ → Type 0
IsNoLater net row other moments =
    (x : ℕ) → x < count net →
    Agrees net (row_at (count net) moments row) (row_at (count net) moments row x)
    (scenario_of (observed_props net.observes) row) (scenario_of (observed_props net.observes) other) →
    row_at (count net) moments other x ≤ row_at (count net) moments row x

-- no constraint and no other row raises a moment
pub record IsSettled (net : Network) (moments : List ℕ) : Type 0 where
  pub meets : (c : Constraint) → Contains net.constraints c → (row : ℕ) → row < rows net → MeetsIn net row c moments
  pub no_later : (row other : ℕ) → row < rows net → other < rows net → IsNoLater net row other moments

-- a table of the network's least moments
pub record HasLeastRows (net : Network) (t : TableParts) : Type 0 where
  pub points : t.points ≡ count net
  pub strategy : IsStrategy net (the_table t)
  pub least : (s : Scenario) (x : ℕ) → x < count net → IsLeast net s x (the_table t s x)
