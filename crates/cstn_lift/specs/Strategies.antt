-- Strategies of a labelled network: a time-point is executed only where its completed label holds.
use Rattle.std.specs.Prelude.{ℕ, ◌≡◌, ◌+◌, ◌<◌, ◌≤◌, ◌↔◌}
use Rattle.std.specs.List.{Contains}
use Rattle.cstn_label.specs.Labels.{Scenario, Holds}
use Rattle.cstn_net.specs.Networks.{Network, Constraint, Observes, count, limit}
use Rattle.cstn_net.specs.Strategies.{Schedule, Table, Meets, IsConsistent, IsLeast}
use Rattle.cstn_lift.specs.Labelled.{Labelled}
use Rattle.cstn_lift.specs.Completion.{completed_label, full_label}

-- x is executed in the scenarios in which its completed label holds
abbrev pub IsExecuted : Labelled → Scenario → ℕ → Type 0
IsExecuted m s x = Holds s (completed_label m x)

-- a constraint is in force in the scenarios in which its full label holds
abbrev pub IsInForce : Labelled → Scenario → Constraint → Type 0
IsInForce m s c = Holds s (full_label m c)

-- in a labelled table, only the moments of the time-points that are executed in a scenario count there; each of these is within
-- the time-point's limit
abbrev pub IsLabelledTable : Labelled → Table → Type 0
IsLabelledTable m table = (s : Scenario) (x : ℕ) → x < count m.base → IsExecuted m s x → table s x ≤ limit m.base x

-- p is known at the moment t of a scenario: its observer is executed in it, and its reaction has passed
pub record IsKnownExecuted (m : Labelled) (s : Scenario) (at : Schedule) (t p : ℕ) : Type 0 where
  pub observer : ℕ
  pub observes : Observes m.base observer p
  pub executed : IsExecuted m s observer
  pub passed : at observer + m.base.reaction p ≤ t

-- a labelled table is dynamic where a time-point x that is executed in a scenario is executed, at the same moment, in each
-- scenario that agrees with what is known then
abbrev pub IsLabelledDynamic : Labelled → Table → Type 0
IsLabelledDynamic m table =
    (s r : Scenario) (x : ℕ) → x < count m.base → IsExecuted m s x →
    ((p : ℕ) → IsKnownExecuted m s (table s) (table s x) p → r p ≡ s p) → IsExecuted m r x × (table r x ≡ table s x)

-- a labelled strategy is a dynamic labelled table that meets, in each scenario, each constraint that is in force there
pub record IsLabelledStrategy (m : Labelled) (table : Table) : Type 0 where
  pub within : IsLabelledTable m table
  pub dynamic : IsLabelledDynamic m table
  pub meets : (s : Scenario) (c : Constraint) → Contains m.base.constraints c → IsInForce m s c → Meets (table s) c

-- a labelled network is consistent where it has a labelled strategy
abbrev pub IsLabelledConsistent : Labelled → Type 0
IsLabelledConsistent m = (table : Table) × IsLabelledStrategy m table

-- t is the least moment of x in the scenario s: x is executed there, some labelled strategy has x at t, and none has x earlier
pub record IsLabelledLeast (m : Labelled) (s : Scenario) (x t : ℕ) : Type 0 where
  pub executed : IsExecuted m s x
  pub reached : (table : Table) × IsLabelledStrategy m table × (table s x ≡ t)
  pub least : (table : Table) → IsLabelledStrategy m table → t ≤ table s x

-- the table has each time-point that is executed at its least moment
abbrev pub HasLabelledLeasts : Labelled → Table → Type 0
HasLabelledLeasts m table = (s : Scenario) (x : ℕ) → x < count m.base → IsExecuted m s x → IsLabelledLeast m s x (table s x)

-- a plain network is consistent exactly where the labelled one is, and a time-point that is executed in a scenario has the same
-- least moments there in both
pub record IsEquivalent (m : Labelled) (net : Network) : Type 0 where
  pub consistent : IsLabelledConsistent m ↔ IsConsistent net
  pub least : (s : Scenario) (x t : ℕ) → x < count m.base → IsExecuted m s x → (IsLabelledLeast m s x t ↔ IsLeast net s x t)

-- the scenario r agrees with s on what is observed in s
abbrev pub AreTwins : Labelled → Scenario → Scenario → Type 0
AreTwins m s r = (j p : ℕ) → Observes m.base j p → IsExecuted m s j → r p ≡ s p

-- the scenario r has the values of s for what is observed in s, and those of d for what isn't
pub record IsDefaulted (m : Labelled) (d s r : Scenario) : Type 0 where
  pub twins : AreTwins m s r
  pub rest : (j p : ℕ) → Observes m.base j p → (IsExecuted m s j → ⊥) → r p ≡ d p

-- each scenario has such a twin
abbrev pub AreDefaulted : Labelled → Scenario → (Scenario → Scenario) → Type 0
AreDefaulted m d twin = (s : Scenario) → IsDefaulted m d s (twin s)
