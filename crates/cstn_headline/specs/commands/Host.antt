-- What `host` tells.
use Rattle.std.specs.Prelude.{◌⊎◌, ◌<◌, ℕ, List, [], ◌∷◌, ◌++◌, map, Option, ◌≡◌, false, None, Some, codes, decimal}
use Rattle.cstn_check.specs.Growth.{load_of}
use Rattle.cstn_check.specs.Decisions.{IsYes, IsNo}
use Rattle.cstn_run.specs.hosted.Sessions.{host_begun, host_turn, host_ending, HostSession, case_of, due_in}
use Rattle.cstn_run.specs.hosted.Files.{Named, the_file, yes_lines}
use Rattle.cstn_request.specs.Documents.{HasNetwork}
use Rattle.cstn_lines.specs.HostLines.{host_read}
use Rattle.cstn_reply.specs.Sessions.{play, answers}
use Rattle.cstn_reply.specs.Texts.{line}
use Rattle.cstn_reply.specs.declared.output.Outcome.{Outcome}
use Rattle.cstn_reply.specs.declared.output.Outcome.TheVariants.{Document}
use Rattle.cstn_top.specs.Lines.{StopsUnread}
use Rattle.cstn_top.specs.commands.Host.{EachHas, FirstHas, FirstRefused}
use Rattle.cstn_headline.specs.Telling.{OutcomeTells, Telling}
use Rattle.cstn_headline.specs.Accepted.{IsNoText}
use Rattle.cstn_headline.specs.Sessions.{Wrote, EndsIn}

-- the documents with these contents have these networks under these names
abbrev pub AreNetworks : List (List ℕ) → Option ℕ → List Named → Type 0
AreNetworks [] deadline [] = Unit {0}
AreNetworks [] deadline (named ∷ all) = ⊥
AreNetworks (bytes ∷ rest) deadline [] = ⊥
AreNetworks (bytes ∷ rest) deadline (named ∷ all) = HasNetwork bytes deadline (λ names net. (names ≡ named.names) × (net ≡ named.net)) × AreNetworks rest deadline all

-- nothing is due in any open plan
abbrev pub ArePlansDone : HostSession → Type 0
ArePlansDone session = (id : ℕ) → id < 64 → due_in session.files (case_of session id) ≡ None

-- something is due in an open plan: this is the least id of one, and the due moment
pub record IsLeftOver (session : HostSession) (id due : ℕ) : Type 0 where
  pub inside : id < 64
  pub due_at : due_in session.files (case_of session id) ≡ Some due
  pub least : (other : ℕ) → other < id → due_in session.files (case_of session other) ≡ None

-- the lines lead to a session in which something is due in an open plan, and the least id of one is told with the due moment
pub record EndsLeftOver (start : HostSession) (lines : List (List ℕ)) : Type 0 where
  pub id : ℕ
  pub due : ℕ
  pub ends : EndsIn host_turn start (λ session. IsLeftOver session id due) lines
  pub text_is : (play host_turn host_ending start 0 lines).text ≡ answers host_turn start 0 lines ++ line (codes "unfinished " ++ decimal id ++ 32 ∷ decimal due)

-- each document has a network that has a strategy; the text is a yes for each and then what is said to the lines of the live source, and
-- this holds of the session that begins with their plans, and of the lines
pub record WroteHost (cap : ℕ) (deadline : Option ℕ) (contents : List (List ℕ)) (live : Option (List ℕ)) (text : List ℕ) (OfLines : HostSession → List (List ℕ) → Type 0) : Type 0 where
  pub all : List Named
  pub are : AreNetworks contents deadline all
  pub consistent : EachHas contents deadline (IsYes cap)
  pub wrote : Wrote false host_turn host_ending (yes_lines all) (host_begun (map the_file all)) live text (OfLines (host_begun (map the_file all)))

-- Each network has a strategy, and in the end nothing is due in any open plan; or something is due in one; or a line is of no grammar,
-- too long or too late. Or the first network whose verdict isn't yes has no strategy, or its log has more than `cap` entries.
abbrev pub host_telling : ℕ → Option ℕ → List (List ℕ) → Option (List ℕ) → List ℕ → Telling
host_telling cap deadline contents live text = record {
  good = WroteHost cap deadline contents live text (λ start. EndsIn host_turn start ArePlansDone);
  bad = FirstHas contents deadline cap (λ names net. IsNo cap net × IsNoText names net text);
  full = FirstHas contents deadline cap (λ names net. cap < load_of net);
  unfinished = WroteHost cap deadline contents live text EndsLeftOver;
  script = WroteHost cap deadline contents live text (λ start lines. StopsUnread host_turn start (λ line'. host_read line' ≡ None) lines (play host_turn host_ending start 0 lines).text);
  wide = ⊥;
}

-- a document is refused, and those of the files before it are not; or this is told
abbrev pub HostTells : ℕ → Option ℕ → Outcome → Option (List ℕ) → List ℕ → List (List ℕ) → Type 0
HostTells cap deadline outcome live text contents = ((outcome ≡ Document) × FirstRefused contents deadline) ⊎ OutcomeTells (host_telling cap deadline contents live text) outcome
