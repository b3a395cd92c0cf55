-- How the values of the program are read.
use Rattle.std.specs.Prelude.{◌≡◌, ◌<◌, ℕ, List, [], ◌∷◌, length, map, string_bytes, String, Vec, slice_index_or}
use Rattle.std.specs.Global.{Global}
use Rattle.std.specs.Option.{option_map}
use Rattle.cstn_net.specs.Read.{the_network}
use Rattle.cstn_plan.specs.Plans.{PlanParts, the_bounds}
use Rattle.cstn_exec.specs.Answers.{Answer, Names, Kept, Refused, DueAt}
use Rattle.cstn_run.specs.hosted.Hosts.{HostParts, Opened, plan_of_file}
use Rattle.cstn_run.specs.hosted.Calls.{HostAnswer, Agreed, FileIs, Told, Denied}
use Rattle.cstn_reply.specs.Texts.{line}
use Rattle.cstn_exec.specs.Running.{refused_text, AreShort}
use Rattle.cstn_run.specs.hosted.Sessions.{File, Case, HostSession, with_id, denied_text}

-- what contracts see of a session: its host, and the printed names of the time-points of each file
pub record HostSessionParts : Type 0 where
  pub host : HostParts
  pub names : List (List (List ℕ))

abbrev pub the_names : List (Vec (String Global) Global) → List (List (List ℕ))
the_names names = map (λ (texts : Vec (String Global) Global). map string_bytes texts.items) names

-- the plan of a file, under the printed names of its time-points
abbrev pub the_planned : PlanParts → List (List ℕ) → File
the_planned plan names = record { names = names; net = the_network plan.net; bounds = the_bounds plan.bounds }

abbrev pub the_files : List PlanParts → List (List (List ℕ)) → List File
the_files (plan ∷ plans) (names ∷ more) = the_planned plan names ∷ the_files plans more
the_files plans names = []

abbrev pub the_case : Opened → Case
the_case opened = record { file = opened.file; run = opened.run }

abbrev pub the_host_session : HostSessionParts → HostSession
the_host_session w = record { files = the_files w.host.plans w.names; cases = map (option_map the_case) w.host.cases }

-- each plan has printed names of its time-points
pub record IsHostSession (plans : List PlanParts) (names : List (List (List ℕ))) : Type 0 where
  pub as_many : length names ≡ length plans
  pub short : (k : ℕ) → k < length plans → AreShort (plan_of_file plans k).net (slice_index_or names k [])

-- why an executive refuses a live line on an id
abbrev pub told_error : ℕ → Answer → List ℕ
told_error id (Names xs) = []
told_error id Kept = []
told_error id (Refused why) = with_id id (refused_text why)
told_error id (DueAt t) = []

-- why a host line is refused
abbrev pub error_text : ℕ → HostAnswer → List ℕ
error_text id Agreed = []
error_text id (FileIs file) = []
error_text id (Told answer) = told_error id answer
error_text id (Denied why) = line (denied_text why)
