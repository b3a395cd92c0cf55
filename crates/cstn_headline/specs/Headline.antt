-- What the headline speaks of: documents and their networks, requests that were answered, and runs that were carried out.
use Rattle.std.specs.Prelude.{◌≡◌, ◌≤◌, ◌<◌, ◌↔◌, ◌⊎◌, ℕ, List, [], ◌∷◌, ◌++◌, length, map, Option, Some, Ok, codes, pos, ◌-ℤ◌, ◌≤ℤ◌}
use Rattle.std.specs.List.{All, Contains}
use Rattle.cstn_label.specs.Labels.{Scenario}
use Rattle.cstn_net.specs.Networks.{Network, Constraint, count}
use Rattle.cstn_net.specs.Strategies.{IsConsistent}
use Rattle.cstn_lift.specs.Labelled.{Labelled}
use Rattle.cstn_lift.specs.Lowered.{lowered}
use Rattle.cstn_lift.specs.Strategies.{IsExecuted, IsInForce, IsLabelledConsistent, IsLabelledLeast}
use Rattle.cstn_text.specs.PrintedNames.{printed_name}
use Rattle.cstn_lines.specs.Pieces.{lines_of}
use Rattle.cstn_graphml.specs.Document.{Parts, document}
use Rattle.cstn_graphml.specs.Networks.{labelled_of, IsFit}
use Rattle.cstn_check.specs.Growth.{load_of}
use Rattle.cstn_exec.specs.Running.{moment_line}
use Rattle.cstn_exec.specs.Sound.{AgreesHanded}
use Rattle.cstn_request.specs.Requests.{AskedFile, Request, check, run, edit, replay, files_of}
use Rattle.cstn_reply.specs.Written.{LiveState}
use Rattle.cstn_request.specs.Limits.{most_document}
use Rattle.cstn_top.specs.Plans.{PlanEnds}
use Rattle.cstn_top.specs.Dispatch.{plan_at}
use Rattle.cstn_top.specs.Meanings.{IsStopped, IsCapRanged}
use Rattle.cstn_top.specs.commands.Run.{run_bounds}
use Rattle.cstn_request.specs.Documents.{AreEmpty}
use Rattle.cstn_request.specs.Files.{file_bytes}
use Rattle.cstn_reply.specs.declared.status.Status.{Status}
use Rattle.cstn_reply.specs.declared.status.Status.TheVariants.{Good, Bad, Full, Script}
use Rattle.cstn_run.specs.Meanings.{guided_end, said_to, GuideSays, WasNamed}
use Rattle.cstn_reply.specs.Texts.{yes_line}
use Rattle.cstn_change.specs.ChangeLines.{network_after}
use Rattle.cstn_reply.specs.Statuses.{status_of}
use Rattle.cstn_reply.specs.declared.output.Outcome.{Outcome}
use Rattle.cstn_headline.specs.Tells.{RequestTells}
use Rattle.cstn_headline.specs.EditSessions.{IsNoCheck}

-- the bytes are a document with the deadline that is asked for, and its parts make a labelled network
pub record Document : Type 0 where
  pub asked : AskedFile
  pub bytes : List ℕ
  pub short : length bytes ≤ most_document
  pub parts : Parts
  pub reads : document bytes asked.deadline ≡ Ok parts
  pub fit : IsFit parts

-- the labelled network of a document, and the printed names of its time-points
abbrev pub network : Document → Labelled
network d = labelled_of d.parts

abbrev pub printed_names : Document → List (List ℕ)
printed_names d = map printed_name d.parts.names

-- there is a labelled dynamic strategy
abbrev pub DocumentHasStrategy : Document → Type 0
DocumentHasStrategy d = IsLabelledConsistent (network d)

-- how many entries the log has
abbrev pub load : Document → ℕ
load d = load_of (lowered (network d))

-- the network as edited by these lines
abbrev pub network_edited : Document → List (List ℕ) → Network
network_edited d edits = network_after d.parts.names (network d).base edits

-- A call answered a request whose files have these contents: it wrote the text after the bytes `old` and ended with the status,
-- and neither a fault nor want of memory stopped it. The cap of the request is in range, and the live source has the bytes
-- `live`. `IsCall` says it of a call of `run`.
pub record RequestCall (request : Request) (contents : List (List ℕ)) : Type 0 where
  pub live : List ℕ
  pub status : Status
  pub text : List ℕ
  pub before : LiveState
  pub after : LiveState
  pub old : List ℕ
  pub output : PlanEnds (plan_at request contents) before after (Some old) (Some (old ++ text)) status
  pub ranged : IsCapRanged request
  pub live_is : before.left ≡ Some live
  pub unstopped : IsStopped status → ⊥

-- what the status of the call tells, with the text that was written
abbrev pub CallTells : (request : Request) (contents : List (List ℕ)) → RequestCall request contents → Type 0
CallTells request contents c = (outcome : Outcome) × (c.status ≡ status_of outcome) × RequestTells request outcome (Some c.live) c.text contents

-- it is told what files there are, and those that the request names have these contents
abbrev pub HasContents : Option (List ℕ → Option (List ℕ)) → Request → List (List ℕ) → Type 0
HasContents shelf request contents = (files : List ℕ → Option (List ℕ)) × (shelf ≡ Some files) × (contents ≡ map (file_bytes files) (files_of request))

-- a call of `run` with this request, over these contents and these bytes of the live source, ended with this status; what the
-- sink had goes from `old` to `new`
pub record IsCall (request : Request) (contents : List (List ℕ)) (live old : List ℕ) (new : Option (List ℕ)) (status : Status) : Type 0 where
  pub call : RequestCall request contents
  pub live_is : call.live ≡ live
  pub old_is : call.old ≡ old
  pub new_is : new ≡ Some (old ++ call.text)
  pub status_is : call.status ≡ status

-- calls of `check`, `run` and `replay` over a document
abbrev pub Checked : Document → ℕ → Type 0
Checked d cap = RequestCall (check d.asked cap) (d.bytes ∷ [])

abbrev pub Ran : Document → ℕ → Type 0
Ran d cap = RequestCall (run d.asked cap) (d.bytes ∷ [])

abbrev pub Replayed : Document → List ℕ → List ℕ → Type 0
Replayed d file text = RequestCall (replay d.asked file) (d.bytes ∷ text ∷ [])

-- Good exactly where this holds, and Bad exactly where it doesn't
abbrev pub StatusDecides : Status → Type 0 → Type 0
StatusDecides status holds = ((status ≡ Good) ↔ holds) × ((status ≡ Bad) ↔ (holds → ⊥))

-- the verdict on an edited network: Full, and then its log has more than `cap` entries, or by whether it is consistent
abbrev pub IsEditedVerdict : ℕ → Network → Status → Type 0
IsEditedVerdict cap net status = ((status ≡ Full) × (cap < load_of net)) ⊎ StatusDecides status (IsConsistent net)

-- an edit session over a document without labels: each of its lines is of the grammar, and these are the lines before the last
-- check
pub record Edited (d : Document) (cap : ℕ) (edits : List (List ℕ)) : Type 0 where
  pub plain : AreEmpty d.parts.labels
  pub call : RequestCall (edit d.asked cap) (d.bytes ∷ [])
  pub read : call.status ≡ Script → ⊥
  pub later : List (List ℕ)
  pub lines_are : lines_of call.live ≡ edits ++ codes "check" ∷ later
  pub last : All IsNoCheck later

-- x was named at t in what was written: an answer to a line that hands in t names it
pub record WasWritten (names : List (List ℕ)) (m : Labelled) (lines : List (List ℕ)) (x t : ℕ) : Type 0 where
  pub was : WasNamed names m (run_bounds m) lines x t
  pub named : List ℕ
  pub says : GuideSays names m (run_bounds m) was.before was.next (moment_line names t named)
  pub there : Contains named x

-- Over these lines a run was carried out, and this text was written: the line that says yes, and the answers to the lines. In each
-- scenario that agrees with the outcomes that were handed in and are known, each time-point whose label holds was named in an
-- answer, at the least moment that any labelled strategy allows, and no other; and the named moments meet each constraint whose
-- label holds.
pub record IsExecutedOver (names : List (List ℕ)) (m : Labelled) (lines : List (List ℕ)) (text : List ℕ) : Type 0 where
  pub text_is : text ≡ yes_line (load_of (lowered m)) ++ (said_to names m (run_bounds m) lines).text
  pub each : (s : Scenario) (x : ℕ) → AgreesHanded m (guided_end names m (run_bounds m) lines) s → x < count m.base → IsExecuted m s x →
      (t : ℕ) × WasWritten names m lines x t × IsLabelledLeast m s x t
  pub no_other : (s : Scenario) (x t : ℕ) → AgreesHanded m (guided_end names m (run_bounds m) lines) s → WasNamed names m (run_bounds m) lines x t → IsExecuted m s x
  pub meets : (s : Scenario) (c : Constraint) (from to : ℕ) → AgreesHanded m (guided_end names m (run_bounds m) lines) s → Contains m.base.constraints c → IsInForce m s c →
      WasNamed names m (run_bounds m) lines c.from from → WasNamed names m (run_bounds m) lines c.to to → (pos to -ℤ pos from) ≤ℤ c.most
