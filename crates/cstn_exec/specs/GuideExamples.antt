-- What is answered while small plans of labelled networks are carried out. The propositions 0 and 1 are called p and q here.
use Rattle.std.specs.Prelude.{ℕ, zero, suc, true, false, List, [], ◌∷◌, Option, Some, None}
use Rattle.cstn_label.specs.declared.marks.Mark.{Mark}
use Rattle.cstn_label.specs.declared.marks.Mark.TheVariants.{Absent, Yes}
use Rattle.cstn_label.specs.Labels.{Label, empty}
use Rattle.cstn_label.specs.Bounds.{Bound}
use Rattle.cstn_net.specs.Networks.{count}
use Rattle.cstn_lift.specs.Labelled.{Labelled}
use Rattle.cstn_lift.specs.Lowered.{lowered}
use Rattle.cstn_exec.specs.Runs.{due}
use Rattle.cstn_exec.specs.Moves.{EventRefusal, Awaiting, NotExecuted, Known, moment_refusal}
use Rattle.cstn_exec.specs.Answers.{Event, Moment, See, AskDue, Answer, Names, Kept, Refused, DueAt, see_answer}
use Rattle.cstn_net.specs.Examples.{only_mark}
use Rattle.cstn_exec.specs.Examples.{from, observing}
use Rattle.cstn_exec.specs.Guides.{Guided, guide_begun, named, advanced, see_refusal, outcome_noted}

abbrev pub moment_answer : Labelled → List Bound → Guided → ℕ → Option EventRefusal → Answer
moment_answer m bounds g t None = Names (named m bounds g.run t)
moment_answer m bounds g t (Some why) = Refused why

abbrev pub unless_refused : Guided → Guided → Option EventRefusal → Guided
unless_refused g other None = other
unless_refused g other (Some why) = g

abbrev pub answer_to : Labelled → List Bound → Guided → Event → Answer
answer_to m bounds g (Moment t) = moment_answer m bounds g t (moment_refusal (lowered m) bounds g.run t)
answer_to m bounds g (See p v) = see_answer (see_refusal m g p)
answer_to m bounds g AskDue = DueAt (due (lowered m) bounds g.run)

abbrev pub guide_after : Labelled → List Bound → Guided → Event → Guided
guide_after m bounds g (Moment t) = unless_refused g (advanced m bounds g t) (moment_refusal (lowered m) bounds g.run t)
guide_after m bounds g (See p v) = unless_refused g (outcome_noted g p v) (see_refusal m g p)
guide_after m bounds g AskDue = g

-- the answers to events in their order
abbrev pub answers_from : Labelled → List Bound → List Event → Guided → List Answer
answers_from m bounds [] g = []
answers_from m bounds (e ∷ es) g = answer_to m bounds g e ∷ answers_from m bounds es (guide_after m bounds g e)

-- the answers to events from the beginning on
abbrev pub guide_answers : Labelled → List Bound → List Event → List Answer
guide_answers m bounds events = answers_from m bounds events (guide_begun (count m.base))

-- Z, P, which observes p, and X, which has the label p and is at 5 or later
abbrev pub treatment : Labelled
treatment = record { base = observing 10 (None ∷ (Some 0 ∷ (None ∷ []))) 1; labels = empty ∷ (empty ∷ (only_mark Yes ∷ [])) }

abbrev pub treatment_plan : List Bound
treatment_plan = from 0 0 empty ∷ (from 1 0 empty ∷ (from 2 5 (only_mark Yes) ∷ (from 2 1 empty ∷ [])))

-- where p is true, X is named at 5
abbrev pub needed_events : List Event
needed_events = Moment 0 ∷ (See 0 true ∷ (AskDue ∷ (Moment 5 ∷ (AskDue ∷ []))))

abbrev pub needed_answers : List Answer
needed_answers = Names (0 ∷ (1 ∷ [])) ∷ (Kept ∷ (DueAt (Some 5) ∷ (Names (2 ∷ []) ∷ (DueAt None ∷ []))))

-- where p is false, X is left out at 1
abbrev pub spared_events : List Event
spared_events = Moment 0 ∷ (See 0 false ∷ (AskDue ∷ (Moment 1 ∷ (AskDue ∷ []))))

abbrev pub spared_answers : List Answer
spared_answers = Names (0 ∷ (1 ∷ [])) ∷ (Kept ∷ (DueAt (Some 1) ∷ (Names [] ∷ (DueAt None ∷ []))))

-- Z, P, which observes p, Q, which has the label p and observes q, and X, which is at 5 or later
abbrev pub second_test : Labelled
second_test = record {
  base = observing 10 (None ∷ (Some 0 ∷ (Some 1 ∷ (None ∷ [])))) 1;
  labels = empty ∷ (empty ∷ (only_mark Yes ∷ (empty ∷ [])));
}

abbrev pub second_test_plan : List Bound
second_test_plan = from 0 0 empty ∷ (from 1 0 empty ∷ (from 2 1 empty ∷ (from 3 5 empty ∷ [])))

-- where p is false, Q is left out at 1, and nothing waits for q
abbrev pub no_second_test_events : List Event
no_second_test_events =
    Moment 0 ∷ (Moment 1 ∷ (See 1 true ∷ (See 0 false ∷ (Moment 1 ∷ (See 1 true ∷ (See 1 false ∷ (AskDue ∷ (Moment 5 ∷ (AskDue ∷
    (See 1 true ∷ []))))))))))

abbrev pub no_second_test_answers : List Answer
no_second_test_answers =
    Names (0 ∷ (1 ∷ [])) ∷ (Refused (Awaiting 0) ∷ (Refused (NotExecuted 1) ∷ (Kept ∷ (Names [] ∷ (Refused (NotExecuted 1) ∷
    (Refused (NotExecuted 1) ∷ (DueAt (Some 5) ∷ (Names (3 ∷ []) ∷ (DueAt None ∷ (Refused (NotExecuted 1) ∷ []))))))))))

-- where p is true, Q is named at 1, and its outcome is waited for
abbrev pub second_test_events : List Event
second_test_events = Moment 0 ∷ (See 0 true ∷ (Moment 1 ∷ (Moment 2 ∷ (See 1 true ∷ (See 1 false ∷ (AskDue ∷ (Moment 5 ∷ [])))))))

abbrev pub second_test_answers : List Answer
second_test_answers =
    Names (0 ∷ (1 ∷ [])) ∷ (Kept ∷ (Names (2 ∷ []) ∷ (Refused (Awaiting 1) ∷ (Kept ∷ (Refused (Known 1 true) ∷ (DueAt (Some 5) ∷
    (Names (3 ∷ []) ∷ [])))))))

-- the label with this mark on q, and no other
abbrev pub on_second : Mark → Label
on_second m zero = Absent
on_second m (suc p) = only_mark m p

-- the same time-points and labels, with outcomes known 3 ticks after their observers
abbrev pub slow_second_test : Labelled
slow_second_test = record {
  base = observing 10 (None ∷ (Some 0 ∷ (Some 1 ∷ (None ∷ [])))) 3;
  labels = empty ∷ (empty ∷ (only_mark Yes ∷ (empty ∷ [])));
}

-- X is at 9 where q is true
abbrev pub slow_second_test_plan : List Bound
slow_second_test_plan = from 0 0 empty ∷ (from 1 0 empty ∷ (from 2 3 empty ∷ (from 3 9 (on_second Yes) ∷ (from 3 5 empty ∷ []))))

-- where p is false, Q is left out at 3, and that q is false is known 3 ticks later
abbrev pub slow_events : List Event
slow_events = Moment 0 ∷ (See 0 false ∷ (Moment 3 ∷ (See 1 true ∷ (AskDue ∷ (Moment 5 ∷ (Moment 6 ∷ (AskDue ∷ [])))))))

abbrev pub slow_answers : List Answer
slow_answers =
    Names (0 ∷ (1 ∷ [])) ∷ (Kept ∷ (Names [] ∷ (Refused (NotExecuted 1) ∷ (DueAt (Some 6) ∷ (Names [] ∷ (Names (3 ∷ []) ∷
    (DueAt None ∷ [])))))))
