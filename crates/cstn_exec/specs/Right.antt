-- When the state of a run is right, and when a moment is due.
use Rattle.std.specs.Prelude.{ℕ, ◌≡◌, ◌+◌, ◌<◌, ◌≤◌, ◌⊎◌, Bool, true, List, Some, None, length, pos, ◌-ℤ◌, ◌≤ℤ◌}
use Rattle.std.specs.List.{Contains}
use Rattle.cstn_label.specs.Labels.{Scenario, Holds}
use Rattle.cstn_label.specs.Bounds.{Bound}
use Rattle.cstn_net.specs.Networks.{Network, Constraint, IsWellFormed, count}
use Rattle.cstn_net.specs.Strategies.{Table, IsStrategy, IsLeast}
use Rattle.cstn_plan.specs.Plans.{IsEarliest}
use Rattle.cstn_exec.specs.Runs.{Run, next, executed_at, outcome_of, observed_at, known, is_awaited}

-- the bounds are those of a plan of a network that has a strategy: they ask for the least moments
pub record IsPlanBounds (net : Network) (bounds : List Bound) : Type 0 where
  pub well_formed : IsWellFormed net
  pub table : Table
  pub earliest : IsEarliest net bounds table

-- the scenario agrees with what is known before u
abbrev pub AgreesKnown : Network → Run → ℕ → Scenario → Type 0
AgreesKnown net run u s = (p : ℕ) (v : Bool) → known net run u p ≡ Some v → s p ≡ v

-- outcomes are kept of executed observers alone; up to `now` nothing is awaited; and in each scenario that agrees with what is
-- known, each executed time-point was executed at its least moment, up to `now`, and each other one has a later least moment
pub record IsRightRun (net : Network) (run : Run) : Type 0 where
  pub moments : length run.moments ≡ count net
  pub outcomes : length run.outcomes ≡ 52
  pub seen : (p : ℕ) (v : Bool) → outcome_of run p ≡ Some v → (m : ℕ) × (observed_at net run p ≡ Some m)
  pub none_awaited : (p : ℕ) → is_awaited net run (next run) p ≡ true → ⊥
  pub early : (x m : ℕ) → executed_at run x ≡ Some m → m < next run
  pub executed : (s : Scenario) (x m : ℕ) → AgreesKnown net run (next run) s → executed_at run x ≡ Some m → IsLeast net s x m
  pub waiting : (s : Scenario) (x : ℕ) → AgreesKnown net run (next run) s → x < count net → executed_at run x ≡ None →
      (m : ℕ) × (next run ≤ m) × IsLeast net s x m

-- x isn't executed, and t is its least moment in each scenario that agrees with what is known at t
pub record IsCalled (net : Network) (run : Run) (t x : ℕ) : Type 0 where
  pub inside : x < count net
  pub waiting : executed_at run x ≡ None
  pub least : (s : Scenario) → AgreesKnown net run (t + 1) s → IsLeast net s x t

-- at t a proposition is awaited, or some time-point has its least moment
abbrev pub HasWork : Network → Run → ℕ → Type 0
HasWork net run t = ((p : ℕ) × (is_awaited net run (t + 1) p ≡ true)) ⊎ ((x : ℕ) × IsCalled net run t x)

-- t is the first moment above `now` (or from 0 on, before a moment is accepted) at which there is something to be done
pub record IsDue (net : Network) (run : Run) (t : ℕ) : Type 0 where
  pub from : next run ≤ t
  pub work : HasWork net run t
  pub first : (u : ℕ) → next run ≤ u → u < t → HasWork net run u → ⊥

-- each time-point is executed
abbrev pub IsDone : Network → Run → Type 0
IsDone net run = (x : ℕ) → x < count net → (m : ℕ) × (executed_at run x ≡ Some m)

-- in each scenario that agrees with what is known, the moments of the run are those of one strategy and meet each constraint
-- whose label holds
pub record IsFulfilled (net : Network) (run : Run) : Type 0 where
  pub table : Table
  pub strategy : IsStrategy net table
  pub moments : (s : Scenario) (x : ℕ) → AgreesKnown net run (next run) s → x < count net → executed_at run x ≡ Some (table s x)
  pub meets : (s : Scenario) (c : Constraint) (from to : ℕ) → AgreesKnown net run (next run) s → Contains net.constraints c →
      Holds s c.label → executed_at run c.from ≡ Some from → executed_at run c.to ≡ Some to → (pos to -ℤ pos from) ≤ℤ c.most

-- u may still be accepted, and is below t
pub record IsBetween (run : Run) (u t : ℕ) : Type 0 where
  pub from : next run ≤ u
  pub below : u < t

-- p is the least proposition that is awaited at t
pub record IsFirstAwaited (net : Network) (run : Run) (t p : ℕ) : Type 0 where
  pub awaited : is_awaited net run (t + 1) p ≡ true
  pub least : (q : ℕ) → q < p → is_awaited net run (t + 1) q ≡ true → ⊥
