-- When the state of a guide is right, and what is so of the moments that it names.
use Rattle.std.specs.Prelude.{ℕ, ◌≡◌, ◌⊎◌, ◌+◌, ◌<◌, Bool, List, true, false, Option, Some, None, length, pos, ◌-ℤ◌, ◌≤ℤ◌}
use Rattle.std.specs.List.{Contains}
use Rattle.cstn_label.specs.Labels.{Label, Scenario, IsMarked, MarkFits}
use Rattle.cstn_label.specs.Bounds.{Bound}
use Rattle.cstn_net.specs.Networks.{Constraint, IsWellFormed, Observes, count}
use Rattle.cstn_net.specs.Strategies.{Table}
use Rattle.cstn_plan.specs.Plans.{IsEarliest}
use Rattle.cstn_lift.specs.Labelled.{Labelled}
use Rattle.cstn_lift.specs.Completion.{completed_label}
use Rattle.cstn_lift.specs.WellFormed.{IsLabelled}
use Rattle.cstn_lift.specs.Lowered.{lowered}
use Rattle.cstn_lift.specs.Strategies.{IsExecuted, IsInForce, IsLabelledStrategy, IsLabelledLeast}
use Rattle.cstn_exec.specs.Runs.{Run, next, executed_at, outcome_of, known}
use Rattle.cstn_exec.specs.Right.{IsRightRun, IsCalled}
use Rattle.cstn_exec.specs.Guides.{Guided, was_left_out, named_at, is_denied}

-- a labelled network that has a strategy, and the bounds of a plan of the lowered one
pub record IsPlanned (m : Labelled) (bounds : List Bound) : Type 0 where
  pub labelled : IsLabelled m
  pub well_formed : IsWellFormed (lowered m)
  pub table : Table
  pub earliest : IsEarliest (lowered m) bounds table

-- each proposition that the label marks is known, with a value that fits
abbrev pub HoldsBy : (ℕ → Option Bool) → Label → Type 0
HoldsBy values a = (p : ℕ) → IsMarked a p → (v : Bool) × (values p ≡ Some v) × MarkFits v (a p)

-- some proposition is known with a value that its mark doesn't fit
abbrev pub IsRuledOut : (ℕ → Option Bool) → Label → Type 0
IsRuledOut values a = (p : ℕ) × (v : Bool) × (values p ≡ Some v) × (MarkFits v (a p) → ⊥)

-- the label holds by the values, or they rule it out
abbrev pub IsDecided : (ℕ → Option Bool) → Label → Type 0
IsDecided values a = HoldsBy values a ⊎ IsRuledOut values a

-- x is named at t: it is called, and its completed label holds by what is known at t
pub record IsNamedAt (m : Labelled) (run : Run) (t x : ℕ) : Type 0 where
  pub called : IsCalled (lowered m) run t x
  pub holds : HoldsBy (known (lowered m) run (t + 1)) (completed_label m x)

-- x is left out at t: it is called, and its completed label is ruled out by what is known at t
pub record IsLeftAt (m : Labelled) (run : Run) (t x : ℕ) : Type 0 where
  pub called : IsCalled (lowered m) run t x
  pub ruled_out : IsRuledOut (known (lowered m) run (t + 1)) (completed_label m x)

-- The run is right for the lowered network. A time-point that has a moment in the run was named if its completed label held by
-- what was known at that moment, and left out if the label was ruled out; there is no other case. A time-point that was left
-- out has a moment in the run too, and the outcome of what it observes is false.
pub record IsGuided (m : Labelled) (g : Guided) : Type 0 where
  pub right : IsRightRun (lowered m) g.run
  pub size : length g.left ≡ count m.base
  pub held : (x t : ℕ) → executed_at g.run x ≡ Some t → was_left_out g x ≡ false → HoldsBy (known (lowered m) g.run (t + 1)) (completed_label m x)
  pub ruled_out : (x t : ℕ) → executed_at g.run x ≡ Some t → was_left_out g x ≡ true → IsRuledOut (known (lowered m) g.run (t + 1)) (completed_label m x)
  pub placed : (x : ℕ) → was_left_out g x ≡ true → (t : ℕ) × (executed_at g.run x ≡ Some t)
  pub denied : (x p : ℕ) → Observes (lowered m) x p → was_left_out g x ≡ true → outcome_of g.run p ≡ Some false

-- the scenario agrees with the outcomes that were handed in and are known
abbrev pub AgreesHanded : Labelled → Guided → Scenario → Type 0
AgreesHanded m g s = (p : ℕ) (v : Bool) → is_denied (lowered m) g p ≡ false → known (lowered m) g.run (next g.run) p ≡ Some v → s p ≡ v

-- in each scenario that agrees with what was handed in and is known, each named time-point is executed, and its moment is its
-- least one; a time-point that was left out isn't executed
pub record IsOnTime (m : Labelled) (g : Guided) : Type 0 where
  pub named : (s : Scenario) (x t : ℕ) → AgreesHanded m g s → named_at g x ≡ Some t → IsLabelledLeast m s x t
  pub left : (s : Scenario) (x : ℕ) → AgreesHanded m g s → was_left_out g x ≡ true → IsExecuted m s x → ⊥

-- in each scenario that agrees with what was handed in and is known, the named moments are those of one labelled strategy,
-- and meet each constraint that is in force
pub record IsLed (m : Labelled) (g : Guided) : Type 0 where
  pub table : Table
  pub strategy : IsLabelledStrategy m table
  pub named : (s : Scenario) (x : ℕ) → AgreesHanded m g s → x < count m.base → IsExecuted m s x → named_at g x ≡ Some (table s x)
  pub others : (s : Scenario) (x : ℕ) → AgreesHanded m g s → (IsExecuted m s x → ⊥) → named_at g x ≡ None
  pub meets : (s : Scenario) (c : Constraint) (from to : ℕ) → AgreesHanded m g s → Contains m.base.constraints c → IsInForce m s c →
      named_at g c.from ≡ Some from → named_at g c.to ≡ Some to → (pos to -ℤ pos from) ≤ℤ c.most
