-- The calls of a host, what is answered to each, and the host that follows.
use Rattle.std.specs.Prelude.{ℕ, Bool, true, false, ◌==◌, nat_lt, if◌then◌else◌, List, [], ◌∷◌, Option, Some, None, length, slice_set}
use Rattle.cstn_label.specs.Bounds.{Bound}
use Rattle.cstn_net.specs.Networks.{Network}
use Rattle.cstn_plan.specs.Plans.{PlanParts}
use Rattle.cstn_exec.specs.Runs.{Run, called}
use Rattle.cstn_exec.specs.Moves.{EventRefusal, moment_refusal}
use Rattle.cstn_exec.specs.Answers.{Event, Moment, See, AskDue, Answer, Names, answer_to, run_after}
use Rattle.cstn_run.specs.hosted.Hosts.{HostParts, Opened, net_at, bounds_at, case_at, opened_anew}

-- a call on an id: `open` over a file, and whether it fails for want of memory; the question for the file, or for the
-- time-points that were named last; an event that is passed to the executive; or `close`
pub data HostCall : Type 0 where
  Open : (file : ℕ) → (want : Bool) → HostCall
  AskFile : HostCall
  AskNamed : HostCall
  Pass : (event : Event) → HostCall
  Close : HostCall

-- a call and its id
pub record CallOn : Type 0 where
  pub id : ℕ
  pub call : HostCall

-- why a call is denied before it reaches an executive
pub data Denial : Type 0 where
  InUse : (id : ℕ) → Denial
  NotOpen : (id : ℕ) → Denial
  OutOfRange : (id : ℕ) → Denial
  NotAFile : (file : ℕ) → Denial
  NoMemory : Denial

-- what is answered: that an id is opened or closed, a file, what an executive answers, or why a call is denied
pub data HostAnswer : Type 0 where
  Agreed : HostAnswer
  FileIs : (file : ℕ) → HostAnswer
  Told : (answer : Answer) → HostAnswer
  Denied : (why : Denial) → HostAnswer

-- the answer to `open` over a file, on an id that isn't open
abbrev pub opening_answer : List PlanParts → ℕ → Bool → HostAnswer
opening_answer plans file want =
    if nat_lt file (length plans) then (if want then Denied NoMemory else Agreed) else Denied (NotAFile file)

abbrev pub opening : List PlanParts → ℕ → Bool → Option Opened
opening plans file want = if nat_lt file (length plans) then (if want then None else Some (opened_anew plans file)) else None

-- what is answered to a call on an id up to 63, by what it is open over
abbrev pub answer_at : List PlanParts → ℕ → Option Opened → HostCall → HostAnswer
answer_at plans id None (Open file want) = opening_answer plans file want
answer_at plans id None AskFile = Denied (NotOpen id)
answer_at plans id None AskNamed = Denied (NotOpen id)
answer_at plans id None (Pass e) = Denied (NotOpen id)
answer_at plans id None Close = Denied (NotOpen id)
answer_at plans id (Some c) (Open file want) = Denied (InUse id)
answer_at plans id (Some c) AskFile = FileIs c.file
answer_at plans id (Some c) AskNamed = Told (Names c.named)
answer_at plans id (Some c) (Pass e) = Told (answer_to (net_at plans c.file) (bounds_at plans c.file) c.run e)
answer_at plans id (Some c) Close = Agreed

abbrev pub unless_event_refused : List ℕ → List ℕ → Option EventRefusal → List ℕ
unless_event_refused before xs None = xs
unless_event_refused before xs (Some why) = before

-- the time-points that were named last, after an event
abbrev pub named_after : Network → List Bound → Run → List ℕ → Event → List ℕ
named_after net bounds run before (Moment t) = unless_event_refused before (called net bounds run t) (moment_refusal net bounds run t)
named_after net bounds run before (See p v) = before
named_after net bounds run before AskDue = before

-- what the id is open over after an event was passed to its executive
abbrev pub event_passed : List PlanParts → Opened → Event → Opened
event_passed plans c e = record {
  file = c.file;
  run = run_after (net_at plans c.file) (bounds_at plans c.file) c.run e;
  named = named_after (net_at plans c.file) (bounds_at plans c.file) c.run c.named e;
}

-- what the id is open over after a call on it
abbrev pub case_after : List PlanParts → Option Opened → HostCall → Option Opened
case_after plans None (Open file want) = opening plans file want
case_after plans None AskFile = None
case_after plans None AskNamed = None
case_after plans None (Pass e) = None
case_after plans None Close = None
case_after plans (Some c) (Open file want) = Some c
case_after plans (Some c) AskFile = Some c
case_after plans (Some c) AskNamed = Some c
case_after plans (Some c) (Pass e) = Some (event_passed plans c e)
case_after plans (Some c) Close = None

-- what is answered to a call on an id
abbrev pub answer_on : HostParts → ℕ → HostCall → HostAnswer
answer_on host id call = if nat_lt id 64 then answer_at host.plans id (case_at host id) call else Denied (OutOfRange id)

-- the host after a call on an id
abbrev pub host_after : HostParts → ℕ → HostCall → HostParts
host_after host id call = record {
  plans = host.plans;
  cases = if nat_lt id 64 then slice_set host.cases id (case_after host.plans (case_at host id) call) else host.cases;
}

-- the host after a list of calls
abbrev pub host_after_all : HostParts → List CallOn → HostParts
host_after_all host [] = host
host_after_all host (c ∷ cs) = host_after_all (host_after host c.id c.call) cs

-- what is answered to a list of calls
abbrev pub answers_on : HostParts → List CallOn → List HostAnswer
answers_on host [] = []
answers_on host (c ∷ cs) = answer_on host c.id c.call ∷ answers_on (host_after host c.id c.call) cs

abbrev pub put_if : Bool → HostAnswer → List HostAnswer → List HostAnswer
put_if true a more = a ∷ more
put_if false a more = more

-- what is answered to the calls on one id, in a list of calls on any ids
abbrev pub answers_to : ℕ → HostParts → List CallOn → List HostAnswer
answers_to id host [] = []
answers_to id host (c ∷ cs) = put_if (c.id == id) (answer_on host c.id c.call) (answers_to id (host_after host c.id c.call) cs)
