-- Small plans, and what is answered while they are carried out. The propositions 0 and 1 are called p and q here.
use Rattle.std.specs.Prelude.{ℕ, true, false, List, [], ◌∷◌, Option, Some, None, pos}
use Rattle.cstn_label.specs.declared.marks.Mark.TheVariants.{Yes, No}
use Rattle.cstn_label.specs.Labels.{Label, empty}
use Rattle.cstn_label.specs.Bounds.{Bound}
use Rattle.cstn_net.specs.Networks.{Network}
use Rattle.cstn_exec.specs.Moves.{Done, Past, Late, Awaiting, NotExecuted, Known}
use Rattle.cstn_exec.specs.Answers.{Event, Moment, See, AskDue, Answer, Names, Kept, Refused, DueAt}
use Rattle.cstn_net.specs.Examples.{only_mark}

-- x is at `least` or later where the label is possible
abbrev pub from : ℕ → ℕ → Label → Bound
from x least label = record { node = x; least = pos least; label = label }

-- a network with one reaction for all propositions; its constraints are left out, since a run doesn't read them
abbrev pub observing : ℕ → List (Option ℕ) → ℕ → Network
observing deadline observes reaction = record { deadline = deadline; observes = observes; reaction = λ p. reaction; constraints = [] }

-- Z, P, which observes p, and X, which is at 10 where p is true
abbrev pub branch_at_ten : Network
branch_at_ten = observing 10 (None ∷ (Some 0 ∷ (None ∷ []))) 1

abbrev pub branch_plan : List Bound
branch_plan = from 0 0 empty ∷ (from 1 0 empty ∷ (from 2 10 (only_mark Yes) ∷ (from 2 1 empty ∷ [])))

-- the branch network with p known 3 ticks after P
abbrev pub slow_branch : Network
slow_branch = observing 10 (None ∷ (Some 0 ∷ (None ∷ []))) 3

abbrev pub slow_branch_plan : List Bound
slow_branch_plan = from 0 0 empty ∷ (from 1 0 empty ∷ (from 2 10 (only_mark Yes) ∷ (from 2 3 empty ∷ [])))

-- the branch network with P at 2 or later
abbrev pub last_tick_plan : List Bound
last_tick_plan = from 0 0 empty ∷ (from 1 2 empty ∷ (from 2 10 (only_mark Yes) ∷ (from 2 3 empty ∷ [])))

-- P and Q, each of which would have to wait for the other
abbrev pub crossed : Network
crossed = observing 5 (None ∷ (Some 0 ∷ (Some 1 ∷ []))) 1

abbrev pub crossed_plan : List Bound
crossed_plan = from 0 0 empty ∷ (from 2 5 empty ∷ (from 1 5 empty ∷ []))

-- Z, S, P, which observes p, T and E: a process from S to E in which T and E are later where p is false
abbrev pub later_process : Network
later_process = observing 40 (None ∷ (None ∷ (Some 0 ∷ (None ∷ (None ∷ []))))) 1

abbrev pub process_plan : List Bound
process_plan =
    from 0 0 empty ∷ (from 1 0 empty ∷ (from 2 5 empty ∷ (from 3 7 (only_mark Yes) ∷ (from 3 13 (only_mark No) ∷ (from 4 10 (only_mark Yes) ∷
    (from 3 6 empty ∷ (from 4 16 (only_mark No) ∷ (from 4 9 empty ∷ []))))))))

-- events where p is false, with every refusal, and their answers
abbrev pub branch_events : List Event
branch_events =
    AskDue ∷ (See 0 true ∷ (Moment 0 ∷ (Moment 0 ∷ (AskDue ∷ (Moment 1 ∷ (See 0 false ∷ (See 0 true ∷ (Moment 2 ∷
    (Moment 1 ∷ (AskDue ∷ (Moment 2 ∷ [])))))))))))

abbrev pub branch_answers : List Answer
branch_answers =
    DueAt (Some 0) ∷ (Refused (NotExecuted 0) ∷ (Names (0 ∷ (1 ∷ [])) ∷ (Refused (Past 0) ∷ (DueAt (Some 1) ∷
    (Refused (Awaiting 0) ∷ (Kept ∷ (Refused (Known 0 false) ∷ (Refused (Late 1) ∷ (Names (2 ∷ []) ∷ (DueAt None ∷
    (Refused Done ∷ [])))))))))))

-- events where p is true, and their answers
abbrev pub true_branch_events : List Event
true_branch_events =
    Moment 0 ∷ (See 0 true ∷ (AskDue ∷ (Moment 10 ∷ [])))

abbrev pub true_branch_answers : List Answer
true_branch_answers =
    Names (0 ∷ (1 ∷ [])) ∷ (Kept ∷ (DueAt (Some 10) ∷ (Names (2 ∷ []) ∷ [])))

-- events where P is executed at 2 and p is false, and their answers
abbrev pub last_tick_events : List Event
last_tick_events =
    Moment 0 ∷ (Moment 2 ∷ (See 0 false ∷ (Moment 3 ∷ [])))

abbrev pub last_tick_answers : List Answer
last_tick_answers =
    Names (0 ∷ []) ∷ (Names (1 ∷ []) ∷ (Kept ∷ (Names (2 ∷ []) ∷ [])))

-- events where an outcome is handed in before its reaction has passed, and their answers
abbrev pub slow_events : List Event
slow_events =
    Moment 0 ∷ (See 0 false ∷ (Moment 1 ∷ (AskDue ∷ (Moment 3 ∷ []))))

abbrev pub slow_answers : List Answer
slow_answers =
    Names (0 ∷ (1 ∷ [])) ∷ (Kept ∷ (Names [] ∷ (DueAt (Some 3) ∷ (Names (2 ∷ []) ∷ []))))

-- events where two observers would wait for each other, and their answers
abbrev pub crossed_events : List Event
crossed_events =
    Moment 0 ∷ (AskDue ∷ (See 0 true ∷ (Moment 6 ∷ (Moment 5 ∷ []))))

abbrev pub crossed_answers : List Answer
crossed_answers =
    Names (0 ∷ []) ∷ (DueAt (Some 5) ∷ (Refused (NotExecuted 0) ∷ (Refused (Late 5) ∷ (Names (1 ∷ (2 ∷ [])) ∷ []))))

-- events of the process, where p is false, and their answers
abbrev pub process_events : List Event
process_events =
    Moment 0 ∷ (AskDue ∷ (Moment 5 ∷ (Moment 6 ∷ (See 0 false ∷ (AskDue ∷ (Moment 13 ∷ (Moment 16 ∷ [])))))))

abbrev pub process_answers : List Answer
process_answers =
    Names (0 ∷ (1 ∷ [])) ∷ (DueAt (Some 5) ∷ (Names (2 ∷ []) ∷ (Refused (Awaiting 0) ∷ (Kept ∷ (DueAt (Some 13) ∷
    (Names (3 ∷ []) ∷ (Names (4 ∷ []) ∷ [])))))))
