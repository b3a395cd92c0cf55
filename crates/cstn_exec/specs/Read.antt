-- How the values of the program are read.
use Rattle.std.specs.Prelude.{ℕ, ◌+◌, ◌≤◌, Bool, List, Option, Some, None, Result, Ok, Err}
use Rattle.cstn_label.specs.declared.bounds.Bound.{Bound}
use Rattle.cstn_net.specs.Read.{NetworkParts, the_network}
use Rattle.cstn_plan.specs.Plans.{the_bounds}
use Rattle.cstn_exec.specs.declared.errors.ExecError.{ExecError}
use Rattle.cstn_exec.specs.declared.errors.ExecError.TheVariants.{Past, Late, Awaiting, NotExecuted, Known as AlreadyKnown, Done}
use Rattle.cstn_net.specs.Networks.{Network, count}
use Rattle.cstn_exec.specs.Runs.{Run, next, called}
use Rattle.cstn_exec.specs.Right.{IsRightRun}
use Rattle.cstn_exec.specs.Moves.{EventRefusal, run_moved, Done as AllDone, Past as PastNow, Late as PastDue, Awaiting as StillAwaiting, NotExecuted as NotObserved, Known as KnownAlready}

-- what contracts see of an executive: the network and the bounds of its plan, its run, and the time-points that were named at
-- the last accepted moment
pub record ExecParts : Type 0 where
  pub net : NetworkParts
  pub bounds : List Bound
  pub run : Run
  pub named : List ℕ

-- the run of an executive with these parts
abbrev pub run_of : Option ℕ → List (Option ℕ) → List (Option Bool) → Run
run_of now moments outcomes = record { now = now; moments = moments; outcomes = outcomes }

-- the executive after the accepted moment t
abbrev pub moved_on : ExecParts → ℕ → ExecParts
moved_on e t = record e {
  run = run_moved (the_network e.net) (the_bounds e.bounds) e.run t;
  named = called (the_network e.net) (the_bounds e.bounds) e.run t;
}

-- what an error tells
abbrev pub the_event_refusal : ExecError → EventRefusal
the_event_refusal Done = AllDone
the_event_refusal (Past now) = PastNow now
the_event_refusal (Late due) = PastDue due
the_event_refusal (Awaiting prop) = StillAwaiting prop.index
the_event_refusal (NotExecuted prop) = NotObserved prop.index
the_event_refusal (AlreadyKnown prop value) = KnownAlready prop.index value

-- what a call was refused for, if it was
abbrev pub event_refusal : {X : Type 0} → Result X ExecError → Option EventRefusal
event_refusal (Ok x) = None
event_refusal (Err e) = Some (the_event_refusal e)

-- what an executive keeps: its run is right and not past the deadline, and there is room for an answer of all time-points
pub record IsExecutive (net : Network) (run : Run) (size : ℕ) : Type 0 where
  pub right : IsRightRun net run
  pub in_time : next run ≤ net.deadline + 1
  pub room : count net ≤ size

-- a run that an executive of the network can have: it is right and not past the deadline
pub record IsRunOf (net : Network) (run : Run) : Type 0 where
  pub right : IsRightRun net run
  pub in_time : next run ≤ net.deadline + 1
