-- An id's own calls, and what an executive that has only these would answer.
use Rattle.std.specs.Prelude.{ℕ, Bool, nat_lt, ◌==◌, ◌&&◌, not, if◌then◌else◌, List, [], ◌∷◌, ◌++◌, Option, Some, None}
use Rattle.std.specs.List.{filter}
use Rattle.cstn_net.specs.Read.{the_network}
use Rattle.cstn_plan.specs.Plans.{PlanParts, the_bounds}
use Rattle.cstn_exec.specs.Answers.{Event, Answer, Names, Kept, Refused, DueAt, event_answers}
use Rattle.cstn_run.specs.hosted.Hosts.{plan_of_file}
use Rattle.cstn_run.specs.hosted.Calls.{HostCall, Open, AskFile, AskNamed, Pass, Close, CallOn, HostAnswer, FileIs, Told, Agreed, Denied, NotOpen, InUse, OutOfRange, opening_answer}

-- the file of an id's last accepted `open`, and what was passed to its executive since
pub record Own : Type 0 where
  pub file : ℕ
  pub events : List Event

-- an id's own calls after one more call on it, where the number of plans is `files`
abbrev pub own_with : ℕ → Option Own → HostCall → Option Own
own_with files None (Open file want) = if nat_lt file files && not want then Some (record { file = file; events = [] }) else None
own_with files None AskFile = None
own_with files None AskNamed = None
own_with files None (Pass e) = None
own_with files None Close = None
own_with files (Some own) (Open file want) = Some own
own_with files (Some own) AskFile = Some own
own_with files (Some own) AskNamed = Some own
own_with files (Some own) (Pass e) = Some (record { file = own.file; events = own.events ++ e ∷ [] })
own_with files (Some own) Close = None

-- the call is on the id
abbrev pub is_on : ℕ → CallOn → Bool
is_on id c = c.id == id

-- an id's own calls after more calls on any ids
abbrev pub own_calls_from : ℕ → Option Own → List CallOn → ℕ → Option Own
own_calls_from files own [] id = own
own_calls_from files own (c ∷ cs) id = own_calls_from files (if is_on id c then own_with files own c.call else own) cs id

-- an id's own calls in a list of calls of a host with `files` plans: the file of its last accepted `open` and what was passed
-- to its executive since, or None where the id isn't open. Only the ids up to 63 can be open
abbrev pub own_calls : ℕ → List CallOn → ℕ → Option Own
own_calls files calls id = if nat_lt id 64 then own_calls_from files None calls id else None

-- the calls on the id
abbrev pub calls_on : ℕ → List CallOn → List CallOn
calls_on id calls = filter (is_on id) calls

-- what an executive started on the plan answers
abbrev pub answers_alone : PlanParts → List Event → List Answer
answers_alone plan events = event_answers (the_network plan.net) (the_bounds plan.bounds) events

-- the last answer of the list, or a where the list is empty
abbrev pub last_from : Answer → List Answer → Answer
last_from a [] = a
last_from a (b ∷ bs) = last_from b bs

-- the time-points that the answers named last, or `before` where they named none
abbrev pub named_from : List ℕ → List Answer → List ℕ
named_from before [] = before
named_from before (Names xs ∷ more) = named_from xs more
named_from before (Kept ∷ more) = named_from before more
named_from before (Refused why ∷ more) = named_from before more
named_from before (DueAt t ∷ more) = named_from before more

-- what is answered to a call on an id up to 63, by the plans and the id's own calls before it: where the call reaches the
-- executive, the last answer of an executive that gets only the id's own calls
abbrev pub answer_by_own : List PlanParts → ℕ → Option Own → HostCall → HostAnswer
answer_by_own plans id None (Open file want) = opening_answer plans file want
answer_by_own plans id None AskFile = Denied (NotOpen id)
answer_by_own plans id None AskNamed = Denied (NotOpen id)
answer_by_own plans id None (Pass e) = Denied (NotOpen id)
answer_by_own plans id None Close = Denied (NotOpen id)
answer_by_own plans id (Some own) (Open file want) = Denied (InUse id)
answer_by_own plans id (Some own) AskFile = FileIs own.file
answer_by_own plans id (Some own) AskNamed = Told (Names (named_from [] (answers_alone (plan_of_file plans own.file) own.events)))
answer_by_own plans id (Some own) (Pass e) = Told (last_from Kept (answers_alone (plan_of_file plans own.file) (own.events ++ e ∷ [])))
answer_by_own plans id (Some own) Close = Agreed

-- what is answered to a call on an id, by the plans and the id's own calls before
abbrev pub answer_by : List PlanParts → ℕ → Option Own → HostCall → HostAnswer
answer_by plans id own call = if nat_lt id 64 then answer_by_own plans id own call else Denied (OutOfRange id)
