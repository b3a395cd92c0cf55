-- `host [--deadline N] [--cap CAP] FILE ..`: plans of several networks, carried out at once.
use Rattle.std.specs.Prelude.{◌⊎◌, ℕ, List, [], ◌∷◌, ◌++◌, map, Option}
use Rattle.cstn_net.specs.Networks.{Network}
use Rattle.cstn_check.specs.Decisions.{verdict, IsYes}
use Rattle.cstn_run.specs.hosted.Sessions.{host_begun, host_turn, host_wants, host_ending}
use Rattle.cstn_run.specs.hosted.Files.{Named, the_file, yes_lines}
use Rattle.cstn_request.specs.Documents.{HasNetwork, IsRefused}
use Rattle.cstn_top.specs.Plans.{Plan, wanting_session}
use Rattle.cstn_top.specs.Answers.{on_document, plan_on_verdict}

-- what is said of files with these contents, whose documents are read one after another: the refusal of the first document that
-- is refused, or `answer` of all networks
abbrev pub on_documents : (List Named → Plan) → Option ℕ → List Named → List (List ℕ) → Plan
on_documents answer deadline before [] = answer before
on_documents answer deadline before (bytes ∷ rest) =
    on_document (λ names net. on_documents answer deadline (before ++ record { names = names; net = net } ∷ []) rest) bytes deadline

-- what is said of networks that are checked one after another: the first verdict that isn't yes, or `after_yes`
abbrev pub on_verdicts : ℕ → Plan → List Named → Plan
on_verdicts cap after_yes [] = after_yes
on_verdicts cap after_yes (named ∷ rest) = plan_on_verdict cap named.names named.net (on_verdicts cap after_yes rest) (verdict cap named.net)

-- what is said of networks: where each verdict is yes, these lines and then the answers to the host lines
abbrev pub attended : ℕ → List Named → Plan
attended cap all = on_verdicts cap (wanting_session host_wants host_turn host_ending (yes_lines all) (host_begun (map the_file all))) all

-- what `host` says of files with these contents
abbrev pub hosted_plan : ℕ → Option ℕ → List (List ℕ) → Plan
hosted_plan cap deadline contents = on_documents (attended cap) deadline [] contents

-- each document with these contents has a network of which this holds
abbrev pub EachHas : List (List ℕ) → Option ℕ → (Network → Type 0) → Type 0
EachHas [] deadline holds = Unit {0}
EachHas (bytes ∷ rest) deadline holds = HasNetwork bytes deadline (λ names net. holds net) × EachHas rest deadline holds

-- this holds of the network of one document under the names of its time-points, and each network before it has a strategy,
-- and a log of at most `cap` entries
abbrev pub FirstHas : List (List ℕ) → Option ℕ → ℕ → (List (List ℕ) → Network → Type 0) → Type 0
FirstHas [] deadline cap holds = ⊥
FirstHas (bytes ∷ rest) deadline cap holds =
    HasNetwork bytes deadline holds ⊎ (HasNetwork bytes deadline (λ names net. IsYes cap net) × FirstHas rest deadline cap holds)

-- the document of one file is refused, and those of the files before it have networks
abbrev pub FirstRefused : List (List ℕ) → Option ℕ → Type 0
FirstRefused [] deadline = ⊥
FirstRefused (bytes ∷ rest) deadline = IsRefused bytes deadline ⊎ (HasNetwork bytes deadline (λ names net. Unit {0}) × FirstRefused rest deadline)
