-- Tables of moments, what is known in them, and strategies.
use Rattle.std.specs.Prelude.{ℕ, ◌≡◌, ◌+◌, ◌<◌, ◌≤◌, ◌⊎◌, pos, ◌-ℤ◌, ◌≤ℤ◌}
use Rattle.std.specs.List.{Contains}
use Rattle.cstn_label.specs.Labels.{Label, Scenario, Holds, IsPossible}
use Rattle.cstn_net.specs.Networks.{Network, Constraint, Observes, count, limit}

-- a schedule has a moment, in ticks, for each time-point
abbrev pub Schedule : Type 0
Schedule = ℕ → ℕ

-- a table has a schedule for each scenario
abbrev pub Table : Type 0
Table = Scenario → Schedule

-- a table of the network: each moment is within the time-point's limit
abbrev pub IsTable : Network → Table → Type 0
IsTable net table = (s : Scenario) (x : ℕ) → x < count net → table s x ≤ limit net x

-- the proposition p is known at the moment t of a schedule: its observer was executed, and its reaction has passed
pub record IsKnown (net : Network) (at : Schedule) (t p : ℕ) : Type 0 where
  pub observer : ℕ
  pub observes : Observes net observer p
  pub passed : at observer + net.reaction p ≤ t

-- the scenario r agrees with what is known at t in the scenario s
abbrev pub Agrees : Network → Schedule → ℕ → Scenario → Scenario → Type 0
Agrees net at t s r = (p : ℕ) → IsKnown net at t p → r p ≡ s p

-- the label is possible in the scenario s by what is known there at t
abbrev pub IsPossibleAt : Network → Schedule → ℕ → Scenario → Label → Type 0
IsPossibleAt net at t s a = IsPossible (IsKnown net at t) s a

-- the scenario r agrees with what is known at t in the table's row of s
abbrev pub AgreesIn : Network → Table → ℕ → Scenario → Scenario → Type 0
AgreesIn net table t s r = Agrees net (table s) t s r

-- x has one moment in the table's rows of s and r, if it is at t or earlier in either
abbrev pub HasOneMoment : Table → ℕ → Scenario → Scenario → ℕ → Type 0
HasOneMoment table t s r x = (table s x ≤ t) ⊎ (table r x ≤ t) → table r x ≡ table s x

-- the scenario r has the values of s for all that is observed
abbrev pub AgreesOnObserved : Network → Scenario → Scenario → Type 0
AgreesOnObserved net s r = (x p : ℕ) → Observes net x p → r p ≡ s p

-- a table is dynamic where each moment depends only on what is known then: in every scenario that agrees with what is known
-- when x is executed, x is executed at the same moment
abbrev pub IsDynamic : Network → Table → Type 0
IsDynamic net table =
    (s r : Scenario) (x : ℕ) → x < count net → Agrees net (table s) (table s x) s r → table r x ≡ table s x

-- in every scenario that agrees with what is known when x is executed, x is executed no later
abbrev pub IsNeverLater : Network → Table → Type 0
IsNeverLater net table =
    (s r : Scenario) (x : ℕ) → x < count net → Agrees net (table s) (table s x) s r → table r x ≤ table s x

-- in the schedule, `to` is at most `most` ticks after `from`
abbrev pub Meets : Schedule → Constraint → Type 0
Meets at c = (pos (at c.to) -ℤ pos (at c.from)) ≤ℤ c.most

-- a strategy is a dynamic table of the network that meets, in each scenario, each constraint whose label holds there
pub record IsStrategy (net : Network) (table : Table) : Type 0 where
  pub within : IsTable net table
  pub dynamic : IsDynamic net table
  pub meets : (s : Scenario) (c : Constraint) → Contains net.constraints c → Holds s c.label → Meets (table s) c

-- a network is consistent where it has a strategy
abbrev pub IsConsistent : Network → Type 0
IsConsistent net = (table : Table) × IsStrategy net table

-- t is the least moment of x in the scenario s: some strategy has x at t there, and none has x earlier
pub record IsLeast (net : Network) (s : Scenario) (x t : ℕ) : Type 0 where
  pub reached : (table : Table) × IsStrategy net table × (table s x ≡ t)
  pub least : (table : Table) → IsStrategy net table → t ≤ table s x

-- the table has each time-point at its least moment
abbrev pub HasLeasts : Network → Table → Type 0
HasLeasts net table = (s : Scenario) (x : ℕ) → x < count net → IsLeast net s x (table s x)

-- a schedule that is within the limits and meets every constraint
pub record IsSchedule (net : Network) (at : Schedule) : Type 0 where
  pub within : (x : ℕ) → x < count net → at x ≤ limit net x
  pub meets : (c : Constraint) → Contains net.constraints c → Meets at c

-- each row of the table is such a schedule, and all rows are the same
abbrev pub AreOneSchedule : Network → Table → Type 0
AreOneSchedule net table =
    ((s : Scenario) → IsSchedule net (table s)) × ((s r : Scenario) (x : ℕ) → x < count net → table r x ≡ table s x)

-- some such schedule has x at t, and none has x earlier
abbrev pub IsLeastInSchedules : Network → ℕ → ℕ → Type 0
IsLeastInSchedules net x t = ((at : Schedule) × IsSchedule net at × (at x ≡ t)) × ((at : Schedule) → IsSchedule net at → t ≤ at x)
