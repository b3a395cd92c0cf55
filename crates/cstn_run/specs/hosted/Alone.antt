-- What is answered on one id, an id's own lines, and what a run of a file's plan alone answers.
use Rattle.std.specs.Prelude.{◌≡◌, ℕ, Bool, true, false, ◌==◌, nat_lt, if◌then◌else◌, List, [], ◌∷◌, ◌++◌, length, flat_map, Option, None, Some}
use Rattle.std.specs.List.{filter}
use Rattle.cstn_net.specs.Networks.{count}
use Rattle.cstn_exec.specs.Runs.{Run, start_of_run, due}
use Rattle.cstn_exec.specs.Answers.{answer_to, run_after}
use Rattle.cstn_lines.specs.LiveLines.{Live}
use Rattle.cstn_lines.specs.HostLines.{Hosted, opened, put_on, closed}
use Rattle.cstn_run.specs.hosted.Calls.{InUse, NotOpen, OutOfRange, NotAFile}
use Rattle.cstn_reply.specs.Texts.{line}
use Rattle.cstn_reply.specs.Sessions.{Turn, more, last, wrong}
use Rattle.cstn_run.specs.hosted.Sessions.{File, HostSession, host_begun, hosted_file, id_of, the_event, answer_lines, with_id, agreed_text, denied_text, host_said, session_after}

-- the host line is on the id
abbrev pub is_on : ℕ → Hosted → Bool
is_on id hosted = id_of hosted == id

-- the host lines on the id
abbrev pub lines_on : ℕ → List Hosted → List Hosted
lines_on id lines = filter (is_on id) lines

abbrev pub put_if : Bool → List ℕ → List (List ℕ) → List (List ℕ)
put_if true text later = text ∷ later
put_if false text later = later

-- what a session says to the lines on one id, where it answers these host lines on any ids in turn
abbrev pub said_to : ℕ → HostSession → List Hosted → List (List ℕ)
said_to id session [] = []
said_to id session (first ∷ lines) = put_if (is_on id first) (host_said session first) (said_to id (session_after session first) lines)

-- the session after host lines in turn
abbrev pub after_all : HostSession → List Hosted → HostSession
after_all session [] = session
after_all session (first ∷ lines) = after_all (session_after session first) lines

-- what is said to a host line after others, where no id was open before them
abbrev pub said_after : List File → List Hosted → Hosted → List ℕ
said_after files lines hosted = host_said (after_all (host_begun files) lines) hosted

-- ---- a run alone

-- the run of a file's plan after a live line
abbrev pub alone_after : File → Run → Live → Run
alone_after file run live = run_after file.net file.bounds run (the_event live)

-- the run of a file's plan after live lines in turn
abbrev pub alone_after_all : File → Run → List Live → Run
alone_after_all file run [] = run
alone_after_all file run (first ∷ lives) = alone_after_all file (alone_after file run first) lives

-- the lines that a run of a file's plan alone answers to a live line
abbrev pub alone_lines : File → Run → Live → List (List ℕ)
alone_lines file run live =
    answer_lines file.names (due file.net file.bounds (alone_after file run live)) live (answer_to file.net file.bounds run (the_event live))

-- what a run of a file's plan alone answers to live lines in turn, each line of its answers after the id
abbrev pub alone_said : ℕ → File → Run → List Live → List (List ℕ)
alone_said id file run [] = []
alone_said id file run (first ∷ lives) = flat_map (with_id id) (alone_lines file run first) ∷ alone_said id file (alone_after file run first) lives

-- the text of an answer
abbrev pub turn_text : Turn Run → List ℕ
turn_text (more text run) = text
turn_text (last host_said) = host_said.text
turn_text wrong = []

-- the answer goes on from this run, or it is the last, and nothing is due in this run
abbrev pub LeadsToRun : File → Run → Turn Run → Type 0
LeadsToRun file next (more text run) = run ≡ next
LeadsToRun file next (last host_said) = due file.net file.bounds next ≡ None
LeadsToRun file next wrong = ⊥

-- ---- an id's own lines

-- the file of an id's last `open` that was answered by `opened`, and the live lines on it since
pub record Own : Type 0 where
  pub file : ℕ
  pub lives : List Live

-- an id's own lines after one more line on it
abbrev pub own_with : List File → Option Own → Hosted → Option Own
own_with files None (opened id file) = if nat_lt file (length files) then Some (record { file = file; lives = [] }) else None
own_with files None (put_on id live) = None
own_with files None (closed id) = None
own_with files (Some own) (opened id file) = Some own
own_with files (Some own) (put_on id live) = Some (record { file = own.file; lives = own.lives ++ live ∷ [] })
own_with files (Some own) (closed id) = None

-- an id's own lines after more host lines on any ids
abbrev pub own_from : List File → Option Own → ℕ → List Hosted → Option Own
own_from files own id [] = own
own_from files own id (first ∷ lines) = own_from files (if is_on id first then own_with files own first else own) id lines

-- an id's own lines among host lines, before which no id was open: the file of its last `open` that was answered by `opened`
-- and the live lines on it since, or None where the id isn't open. Only the ids up to 63 can be open
abbrev pub own_lines : List File → ℕ → List Hosted → Option Own
own_lines files id lines = if nat_lt id 64 then own_from files None id lines else None

abbrev pub own_file : List File → Own → File
own_file files own = hosted_file files own.file

-- the run of the file's plan alone after the id's own lines
abbrev pub own_run : List File → Own → Run
own_run files own = alone_after_all (own_file files own) (start_of_run (count (own_file files own).net)) own.lives

-- What is said to a line on an id up to 63, by its own lines before. Where it isn't open, `open` of a file that is there opens
-- it, and all else is refused. Where it is open, `open` is refused, `close` closes it, and to a live line the answer is that of a
-- run of the file's plan alone, each line after the id.
abbrev pub said_by_own : List File → Option Own → Hosted → List ℕ
said_by_own files None (opened id file) = if nat_lt file (length files) then agreed_text (opened id file) else line (denied_text (NotAFile file))
said_by_own files None (put_on id live) = line (denied_text (NotOpen id))
said_by_own files None (closed id) = line (denied_text (NotOpen id))
said_by_own files (Some own) (opened id file) = line (denied_text (InUse id))
said_by_own files (Some own) (put_on id live) = flat_map (with_id id) (alone_lines (own_file files own) (own_run files own) live)
said_by_own files (Some own) (closed id) = agreed_text (closed id)

-- what is said to a host line after others, by the own lines of its id
abbrev pub said_by : List File → List Hosted → Hosted → List ℕ
said_by files lines hosted =
    if nat_lt (id_of hosted) 64 then said_by_own files (own_lines files (id_of hosted) lines) hosted else line (denied_text (OutOfRange (id_of hosted)))
