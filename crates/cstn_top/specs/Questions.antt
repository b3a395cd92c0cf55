-- What a request asks, once its files are read.
use Rattle.std.specs.Prelude.{◌≤◌, ◌<◌, ◌^◌, ℕ, Bool, true, false, List, length, map, Option}
use Rattle.std.specs.List.{All}
use Rattle.cstn_net.specs.Networks.{Constraint}
use Rattle.cstn_net.specs.Read.{the_network}
use Rattle.cstn_text.specs.Limits.{most_text}
use Rattle.cstn_lift.specs.Read.{the_labelled}
use Rattle.cstn_request.specs.Limits.{most_files}
use Rattle.cstn_request.specs.Requests.{Request, of_network, of_labelled, of_text, of_document, of_plan, drill, host, version, files_of, network_labels}
use Rattle.cstn_reply.specs.Read.{the_said}
use Rattle.cstn_reply.specs.declared.output.Said.{Said as SaidText}
use Rattle.cstn_request.specs.Files.{AreContents, AreThere}
use Rattle.cstn_request.specs.Opened.{AreDocumentNames}
use Rattle.cstn_request.specs.declared.reading.NamedNetwork.{NamedNetwork}
use Rattle.cstn_top.specs.Plans.{Plan, says, ComesTo}
use Rattle.cstn_top.specs.commands.Host.{attended}
use Rattle.cstn_top.specs.commands.Plan.{planned}
use Rattle.cstn_top.specs.commands.Drill.{drilled}
use Rattle.cstn_top.specs.commands.Version.{versioned}
use Rattle.cstn_top.specs.Kinds.{AnswerKind, a_text, a_host}
use Rattle.cstn_top.specs.Dispatch.{network_answer, network_kind, labelled_answer, labelled_kind, text_answer, document_answer, plan_at}
use Rattle.cstn_top.specs.Prepared.{Planned, TellsRefused, AsksEnough}
use Rattle.cstn_top.specs.Begun.{the_named}
use Rattle.cstn_request.specs.Several.{IsSoundNetwork}
use Rattle.cstn_top.specs.declared.commands.questions.Question.{Question}
use Rattle.cstn_top.specs.declared.commands.questions.Question.TheVariants.{OfNetwork, OfLabelled, OfText, OfDocument, OfPlan, Drill, Host, Version}

-- what is said to a question
abbrev pub the_question : Question → Plan
the_question (OfNetwork verb d cap) = network_answer verb cap.entries d.names (the_network d.network)
the_question (OfLabelled verb d cap) = labelled_answer verb cap.entries d.names (the_labelled d.labelled)
the_question (OfText verb d text) = text_answer verb text.items d.names (the_network d.network)
the_question (OfDocument verb d) = document_answer verb d.names (the_labelled d.labelled)
the_question (OfPlan text deadline) = planned text.items deadline
the_question (Drill number) = says (drilled number)
the_question (Host documents cap) = attended cap.entries (map the_named documents.items)
the_question (Version release) = says (versioned release)

-- the question says what the request says of the contents of its files, each of which is there
pub record Asks (request : Request) (shelf : Option (List ℕ → Option (List ℕ))) (question : Question) : Type 0 where
  pub contents : List (List ℕ)
  pub are : AreContents shelf (files_of request) contents
  pub comes : ComesTo (plan_at request contents) (the_question question)
  pub there : AreThere shelf (files_of request)

-- this is what the request says, since a file is refused; no file behind it was asked for
pub record TellsInstead (request : Request) (shelf : Option (List ℕ → Option (List ℕ))) (before after : Option (List (List ℕ))) (said : SaidText) : Type 0 where
  pub plan : Planned request shelf (says (the_said said))
  pub refused : TellsRefused shelf before after request (says (the_said said))
  pub asked : AsksEnough request shelf before after (says (the_said said))

-- what is said to the question may still be that a plan in sentences is refused: the others have accepted documents alone
abbrev pub MayRefuse : Question → Type 0
MayRefuse (OfNetwork verb d cap) = ⊥
MayRefuse (OfLabelled verb d cap) = ⊥
MayRefuse (OfText verb d text) = ⊥
MayRefuse (OfDocument verb d) = ⊥
MayRefuse (OfPlan text deadline) = Unit {0}
MayRefuse (Drill number) = ⊥
MayRefuse (Host documents cap) = ⊥
MayRefuse (Version release) = ⊥

-- the request is of a plan in sentences
abbrev pub IsOfPlan : Request → Type 0
IsOfPlan (of_network verb asked cap) = ⊥
IsOfPlan (of_labelled verb asked cap) = ⊥
IsOfPlan (of_text verb asked proof) = ⊥
IsOfPlan (of_document verb asked) = ⊥
IsOfPlan (of_plan asked) = Unit {0}
IsOfPlan (drill number) = ⊥
IsOfPlan (host files deadline cap) = ⊥
IsOfPlan (version release) = ⊥

-- the ids of the constraints of a document without labels are below 2 ^ 31
abbrev pub HasSmallIds : Bool → NamedNetwork → Type 0
HasSmallIds true d = Unit {0}
HasSmallIds false d = All (λ c. c.id < 2 ^ 31) d.network.constraints

-- what was read is what documents and texts hold
abbrev pub IsSoundQuestion : Question → Type 0
IsSoundQuestion (OfNetwork verb d cap) = IsSoundNetwork d × HasSmallIds (network_labels verb) d
IsSoundQuestion (OfLabelled verb d cap) =
    AreDocumentNames d.names (the_network d.labelled.base) × All (λ (c : Constraint). c.id < 2 ^ 31) (the_labelled d.labelled).base.constraints
IsSoundQuestion (OfText verb d text) = IsSoundNetwork d × (length text.items ≤ most_text)
IsSoundQuestion (OfDocument verb d) = AreDocumentNames d.names (the_network d.labelled.base)
IsSoundQuestion (OfPlan text deadline) = Unit {0}
IsSoundQuestion (Drill number) = Unit {0}
IsSoundQuestion (Host documents cap) = All IsSoundNetwork documents.items × (1 ≤ length documents.items) × (length documents.items ≤ most_files)
IsSoundQuestion (Version release) = Unit {0}

-- how a question is answered
abbrev pub question_kind : Question → AnswerKind
question_kind (OfNetwork verb d cap) = network_kind verb
question_kind (OfLabelled verb d cap) = labelled_kind verb
question_kind (OfText verb d text) = a_text
question_kind (OfDocument verb d) = a_text
question_kind (OfPlan text deadline) = a_text
question_kind (Drill number) = a_text
question_kind (Host documents cap) = a_host
question_kind (Version release) = a_text
