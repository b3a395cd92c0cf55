-- What is answered to host lines.
use Rattle.std.specs.Prelude.{ℕ, zero, suc, ◌+◌, nat_lt, Bool, true, false, if◌then◌else◌, List, [], ◌∷◌, ◌++◌, length, flat_map, replicate, slice_set, slice_index_or, Option, None, Some, codes, decimal}
use Rattle.std.specs.Option.{option_map}
use Rattle.cstn_label.specs.Bounds.{Bound}
use Rattle.cstn_net.specs.Networks.{Network, count}
use Rattle.cstn_net.specs.Read.{the_network}
use Rattle.cstn_lines.specs.LiveLines.{Live, moment_at, seen, due_now}
use Rattle.cstn_lines.specs.HostLines.{Hosted, opened, put_on, closed, host_read}
use Rattle.cstn_exec.specs.Runs.{Run, start_of_run, due}
use Rattle.cstn_exec.specs.Answers.{Event, Moment, See, AskDue, Answer, Names, Kept, Refused, DueAt, answer_to, run_after}
use Rattle.cstn_run.specs.hosted.Hosts.{no_plan}
use Rattle.cstn_run.specs.hosted.Calls.{Denial, InUse, NotOpen, OutOfRange, NotAFile, NoMemory, HostAnswer, Agreed, FileIs, Told, Denied}
use Rattle.cstn_reply.specs.Texts.{line, Said, say}
use Rattle.cstn_reply.specs.Sessions.{Turn, more, wrong}
use Rattle.cstn_reply.specs.declared.output.Outcome.TheVariants.{Good, Unfinished}
use Rattle.cstn_exec.specs.Running.{spaced, refused_text, seen_text, due_text}

-- one of the files: the printed names of its time-points, its network, and the bounds of its plan
pub record File : Type 0 where
  pub names : List (List ℕ)
  pub net : Network
  pub bounds : List Bound

-- what an id is open over: the number of a file, from 0, and the run of that file's plan
pub record Case : Type 0 where
  pub file : ℕ
  pub run : Run

-- a session of a host: the files, and for each id from 0 to 63 what it is open over, if it is open
pub record HostSession : Type 0 where
  pub files : List File
  pub cases : List (Option Case)

-- no id is open
abbrev pub host_begun : List File → HostSession
host_begun files = record { files = files; cases = replicate 64 None }

-- what stands for a file that isn't there
abbrev pub no_file : File
no_file = record { names = []; net = the_network no_plan.net; bounds = [] }

abbrev pub hosted_file : List File → ℕ → File
hosted_file files k = slice_index_or files k no_file

-- what the id is open over, if it is open
abbrev pub case_of : HostSession → ℕ → Option Case
case_of session id = slice_index_or session.cases id None

-- what an id is open over when it was just opened: a run of the file's plan in which nothing is executed or seen
abbrev pub fresh : List File → ℕ → Case
fresh files file = record { file = file; run = start_of_run (count (hosted_file files file).net) }

-- the id of a host line
abbrev pub id_of : Hosted → ℕ
id_of (opened id file) = id
id_of (put_on id live) = id
id_of (closed id) = id

-- what a live line passes to an executive
abbrev pub the_event : Live → Event
the_event (moment_at t) = Moment t
the_event (seen p value) = See p value
the_event due_now = AskDue

-- ---- the state of an id

-- the case after a live line: its run goes on as that of an executive
abbrev pub passed_on : List File → Case → Live → Case
passed_on files c live = record {
  file = c.file;
  run = run_after (hosted_file files c.file).net (hosted_file files c.file).bounds c.run (the_event live);
}

-- what the id of a host line is open over after it
abbrev pub case_next : List File → Option Case → Hosted → Option Case
case_next files None (opened id file) = if nat_lt file (length files) then Some (fresh files file) else None
case_next files None (put_on id live) = None
case_next files None (closed id) = None
case_next files (Some c) (opened id file) = Some c
case_next files (Some c) (put_on id live) = Some (passed_on files c live)
case_next files (Some c) (closed id) = None

-- what is answered to a host line, by what its id is open over: to a live line what an executive answers
abbrev pub answer_in : List File → Option Case → Hosted → HostAnswer
answer_in files None (opened id file) = if nat_lt file (length files) then Agreed else Denied (NotAFile file)
answer_in files None (put_on id live) = Denied (NotOpen id)
answer_in files None (closed id) = Denied (NotOpen id)
answer_in files (Some c) (opened id file) = Denied (InUse id)
answer_in files (Some c) (put_on id live) = Told (answer_to (hosted_file files c.file).net (hosted_file files c.file).bounds c.run (the_event live))
answer_in files (Some c) (closed id) = Agreed

-- ---- answers in words

-- a line after its id
abbrev pub with_id : ℕ → List ℕ → List ℕ
with_id id text = line (decimal id ++ 32 ∷ text)

-- one more line after the moment that executes the last time-point
abbrev pub done_lines : Option ℕ → List (List ℕ)
done_lines None = due_text None ∷ []
done_lines (Some t) = []

abbrev pub moment_lines : List (List ℕ) → Option ℕ → Live → List ℕ → List (List ℕ)
moment_lines names due (moment_at t) xs = (codes "at " ++ decimal t ++ spaced names xs) ∷ done_lines due
moment_lines names due (seen p value) xs = []
moment_lines names due due_now xs = []

abbrev pub seen_lines : Live → List (List ℕ)
seen_lines (moment_at t) = []
seen_lines (seen p value) = seen_text p value ∷ []
seen_lines due_now = []

-- an executive's answer to a live line in lines, by what is due after it
abbrev pub answer_lines : List (List ℕ) → Option ℕ → Live → Answer → List (List ℕ)
answer_lines names due live (Names xs) = moment_lines names due live xs
answer_lines names due live Kept = seen_lines live
answer_lines names due live (Refused why) = refused_text why ∷ []
answer_lines names due live (DueAt t) = due_text t ∷ []

-- the live line of a host line; one that opens or closes an id has none, and `due` stands for it, which no executive answers
abbrev pub live_line_of : Hosted → Live
live_line_of (opened id file) = due_now
live_line_of (put_on id live) = live
live_line_of (closed id) = due_now

abbrev pub told_text : List (List ℕ) → Option ℕ → Hosted → Answer → List ℕ
told_text names due hosted answer = flat_map (with_id (id_of hosted)) (answer_lines names due (live_line_of hosted) answer)

abbrev pub agreed_text : Hosted → List ℕ
agreed_text (opened id file) = line (codes "opened " ++ decimal id)
agreed_text (put_on id live) = []
agreed_text (closed id) = line (codes "closed " ++ decimal id)

-- why a host refuses a line that comes to no executive
abbrev pub denied_text : Denial → List ℕ
denied_text (InUse id) = codes "refused H1 " ++ decimal id
denied_text (NotOpen id) = codes "refused H2 " ++ decimal id
denied_text (OutOfRange id) = codes "refused H3 " ++ decimal id
denied_text (NotAFile file) = codes "refused H4 " ++ decimal file
denied_text NoMemory = []

-- an answer, by the names of the time-points, and what is due after it
abbrev pub answer_text : List (List ℕ) → Option ℕ → Hosted → HostAnswer → List ℕ
answer_text names due hosted Agreed = agreed_text hosted
answer_text names due hosted (FileIs file) = []
answer_text names due hosted (Told answer) = told_text names due hosted answer
answer_text names due hosted (Denied why) = line (denied_text why)

abbrev pub names_in : List File → Option Case → List (List ℕ)
names_in files None = []
names_in files (Some c) = (hosted_file files c.file).names

-- the moment that is due, if the id is open and not all is executed
abbrev pub due_in : List File → Option Case → Option ℕ
due_in files None = None
due_in files (Some c) = due (hosted_file files c.file).net (hosted_file files c.file).bounds c.run

-- what is said to a host line, by what its id is open over
abbrev pub said_in : List File → Option Case → Hosted → List ℕ
said_in files case hosted = answer_text (names_in files case) (due_in files (case_next files case hosted)) hosted (answer_in files case hosted)

-- ---- the session

-- what is said to a host line
abbrev pub host_said : HostSession → Hosted → List ℕ
host_said session hosted =
    if nat_lt (id_of hosted) 64 then said_in session.files (case_of session (id_of hosted)) hosted else line (denied_text (OutOfRange (id_of hosted)))

-- the session after a host line
abbrev pub session_after : HostSession → Hosted → HostSession
session_after session hosted = record {
  files = session.files;
  cases = if nat_lt (id_of hosted) 64 then slice_set session.cases (id_of hosted) (case_next session.files (case_of session (id_of hosted)) hosted) else session.cases;
}

-- the answer to what a host line says
abbrev pub hosted_turn : HostSession → Option Hosted → Turn HostSession
hosted_turn session None = wrong
hosted_turn session (Some hosted) = more (host_said session hosted) (session_after session hosted)

-- the answer to a host line
abbrev pub host_turn : HostSession → List ℕ → Turn HostSession
host_turn session text = hosted_turn session (host_read text)

-- the host line opens an id
abbrev pub is_opening : Option Hosted → Bool
is_opening None = false
is_opening (Some (opened id file)) = true
is_opening (Some (put_on id live)) = false
is_opening (Some (closed id)) = false

-- the answer to the line may want memory: only one that opens an id
abbrev pub host_wants : List ℕ → Bool
host_wants text = is_opening (host_read text)

-- the first of two, or the second where there is no first
abbrev pub or_second : Option (ℕ × ℕ) → Option (ℕ × ℕ) → Option (ℕ × ℕ)
or_second (Some found) later = Some found
or_second None later = later

-- of n ids from `id` on, the least that is open and has something due, and the moment that is due there
abbrev pub due_from : HostSession → ℕ → ℕ → Option (ℕ × ℕ)
due_from session id zero = None
due_from session id (suc n) = or_second (option_map (λ t. (id, t)) (due_in session.files (case_of session id))) (due_from session (id + 1) n)

-- the least open id of which not all is executed, and the moment that is due there
unfoldable pub unfinished : HostSession → Option (ℕ × ℕ)
unfinished session = due_from session 0 64

abbrev pub host_ended : Option (ℕ × ℕ) → Said
host_ended None = record { outcome = Good; text = [] }
host_ended (Some found) = say Unfinished (codes "unfinished " ++ decimal found.0 ++ 32 ∷ decimal found.1)

-- what is said where the host lines end
abbrev pub host_ending : HostSession → Said
host_ending session = host_ended (unfinished session)
