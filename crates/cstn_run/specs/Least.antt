-- What answers tell of moments, whatever their texts are, where a network is carried out by the bounds of a plan.
use Rattle.std.specs.Prelude.{◌≡◌, ◌↔◌, ◌≤◌, ℕ, List, Option, None, Some}
use Rattle.std.specs.List.{Contains}
use Rattle.std.specs.List.Sorted.{IsStrictlyIncreasing}
use Rattle.cstn_label.specs.Bounds.{Bound}
use Rattle.cstn_label.specs.Labels.{Scenario}
use Rattle.cstn_net.specs.Networks.{Network}
use Rattle.cstn_exec.specs.Runs.{Run, due as due_moment}
use Rattle.cstn_exec.specs.Right.{IsDue, IsDone}
use Rattle.cstn_exec.specs.Running.{due_text}

-- The answer to a moment that is accepted, which says the time-points that it names by `Says`, names in ascending number exactly
-- those whose moment it is. In each scenario that agrees with what is known, it is the least moment of each.
pub record NamesLeast (Says : List ℕ → Type 0) (IsItsMoment : ℕ → Type 0) (Agrees : Scenario → Type 0) (IsLeast : Scenario → ℕ → Type 0) : Type 0 where
  pub named : List ℕ
  pub says : Says named
  pub ascending : IsStrictlyIncreasing named
  pub exactly : (x : ℕ) → Contains named x ↔ IsItsMoment x
  pub least : (s : Scenario) (x : ℕ) → Agrees s → Contains named x → IsLeast s x

-- what is due in a run: nothing where each time-point is executed, and else the due moment, which is within the deadline
abbrev pub IsDueMoment : Network → Run → Option ℕ → Type 0
IsDueMoment net run None = IsDone net run
IsDueMoment net run (Some t) = IsDue net run t × (t ≤ net.deadline)

-- the answer to `due`, which says its line by `Says`, is the due moment, by which moments are accepted, or that all is done
pub record TellsDue (Says : List ℕ → Type 0) (net : Network) (bounds : List Bound) (run : Run) : Type 0 where
  pub due : Option ℕ
  pub due_is : due ≡ due_moment net bounds run
  pub says : Says (due_text due)
  pub right : IsDueMoment net run due
