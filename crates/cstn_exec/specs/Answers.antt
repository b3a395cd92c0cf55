-- Events, and what is answered to them while a plan is carried out.
use Rattle.std.specs.Prelude.{ℕ, Bool, List, [], ◌∷◌, Option, Some, None, length}
use Rattle.cstn_label.specs.Bounds.{Bound}
use Rattle.cstn_net.specs.Networks.{Network}
use Rattle.cstn_exec.specs.Runs.{Run, start_of_run, due, called}
use Rattle.cstn_exec.specs.Moves.{EventRefusal, moment_refusal, run_moved, outcome_refusal, handed}

-- an event: a moment, an outcome, or the question for the due moment
pub data Event : Type 0 where
  Moment : (t : ℕ) → Event
  See : (p : ℕ) → (v : Bool) → Event
  AskDue : Event

-- the answer to an event: the time-points that are named, that the outcome is kept, why the event is refused, or the due
-- moment
pub data Answer : Type 0 where
  Names : (xs : List ℕ) → Answer
  Kept : Answer
  Refused : (why : EventRefusal) → Answer
  DueAt : (t : Option ℕ) → Answer

-- the answer to a moment that is refused for this reason, or accepted if there is none
abbrev pub moment_answer : Network → List Bound → Run → ℕ → Option EventRefusal → Answer
moment_answer net bounds run t None = Names (called net bounds run t)
moment_answer net bounds run t (Some why) = Refused why

-- the run as it was if there is a reason to refuse, and the other run if there is none
abbrev pub run_unless : Run → Run → Option EventRefusal → Run
run_unless run other None = other
run_unless run other (Some why) = run

-- the answer to an outcome
abbrev pub see_answer : Option EventRefusal → Answer
see_answer None = Kept
see_answer (Some why) = Refused why

-- the answer to an event
abbrev pub answer_to : Network → List Bound → Run → Event → Answer
answer_to net bounds run (Moment t) = moment_answer net bounds run t (moment_refusal net bounds run t)
answer_to net bounds run (See p v) = see_answer (outcome_refusal net run p)
answer_to net bounds run AskDue = DueAt (due net bounds run)

-- the run after an event
abbrev pub run_after : Network → List Bound → Run → Event → Run
run_after net bounds run (Moment t) = run_unless run (run_moved net bounds run t) (moment_refusal net bounds run t)
run_after net bounds run (See p v) = run_unless run (handed run p v) (outcome_refusal net run p)
run_after net bounds run AskDue = run

-- the answers to events in their order
abbrev pub answers_from : Network → List Bound → List Event → Run → List Answer
answers_from net bounds [] run = []
answers_from net bounds (e ∷ es) run = answer_to net bounds run e ∷ answers_from net bounds es (run_after net bounds run e)

-- the answers to events from the start on
abbrev pub event_answers : Network → List Bound → List Event → List Answer
event_answers net bounds events = answers_from net bounds events (start_of_run (length net.observes))
