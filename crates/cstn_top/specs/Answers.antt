-- What is said of documents, of networks and of texts, as plans.
use Rattle.std.specs.Prelude.{◌≡◌, ◌⊎◌, ◌<◌, ◌≤◌, ℕ, Bool, true, false, nat_lt, List, ◌++◌, length, Option, Result, Ok, Err, codes}
use Rattle.cstn_label.specs.Labels.{Label}
use Rattle.cstn_net.specs.Networks.{Network}
use Rattle.cstn_net.specs.declared.errors.NetError.{NetError}
use Rattle.cstn_text.specs.Limits.{most_text}
use Rattle.cstn_lift.specs.Labelled.{Labelled}
use Rattle.cstn_lift.specs.Lowered.{lowered}
use Rattle.cstn_lift.specs.declared.errors.LiftError.{LiftError}
use Rattle.cstn_element.specs.Results.{Refusal}
use Rattle.cstn_graphml.specs.Document.{Parts, document}
use Rattle.cstn_graphml.specs.Networks.{labelled_of, IsUnfit, IsMislabelled, IsFit}
use Rattle.cstn_check.specs.Decisions.{unless_yes}
use Rattle.cstn_check.specs.declared.verdicts.Verdict.{Verdict}
use Rattle.cstn_reply.specs.Texts.{Said, say}
use Rattle.cstn_reply.specs.declared.output.Outcome.TheVariants.{Document, Script}
use Rattle.cstn_request.specs.Documents.{AreEmpty}
use Rattle.cstn_request.specs.Limits.{most_document}
use Rattle.cstn_request.specs.Refusals.{refusal_text, network_fault, label_fault, fault_text, label_fault_text}
use Rattle.cstn_top.specs.Plans.{Plan, says, either_plan, unless_said, where_fit}

-- what is said of a network under the names of its time-points
abbrev pub NetworkAnswer : Type 1
NetworkAnswer = List (List ℕ) → Network → Plan

-- what is said of a labelled network under the names of its time-points
abbrev pub LabelledAnswer : Type 1
LabelledAnswer = List (List ℕ) → Labelled → Plan

-- ---- of the parts of a network

-- what a file with the parts of a network is: a document, or a plan in sentences
pub data Form : Type 0 where
  a_document : Form
  a_plan : Form

-- what is said of a fault of the network of such a file, under the names of its time-points
abbrev pub fault_line : Form → List (List ℕ) → NetError → List ℕ
fault_line a_document names error = fault_text names error
fault_line a_plan names error = codes "plan " ++ network_fault names error

-- likewise of a fault of its labels
abbrev pub label_fault_line : Form → List (List ℕ) → LiftError → List ℕ
label_fault_line a_document names error = label_fault_text names error
label_fault_line a_plan names error = codes "plan " ++ label_fault names error

-- the parts make no labelled network, and the lowest fault of the network is told, or that of its labels
abbrev pub IsFaultOf : Form → Parts → Said → Type 0
IsFaultOf form parts said =
    ((error : NetError) × IsUnfit parts error × (said ≡ say Document (fault_line form parts.names error)))
    ⊎ ((error : LiftError) × IsMislabelled parts error × (said ≡ say Document (label_fault_line form parts.names error)))

-- what a plan says where the parts make a labelled network, and else their fault
abbrev pub judges : Form → Parts → Plan → Plan
judges form parts plan = where_fit (IsFit parts) (IsFaultOf form parts) plan

-- what a plan says where the labels are empty, and else that labels are refused
abbrev pub unlabelled : List Label → Plan → Plan
unlabelled labels plan = where_fit (AreEmpty labels) (λ said. (AreEmpty labels → ⊥) × (said ≡ say Document (codes "document labels"))) plan

-- ---- of documents

-- what is said of a labelled network where labels are refused: `answer` of its network, or that a time-point has a label
abbrev pub of_plain : NetworkAnswer → LabelledAnswer
of_plain answer names m = unlabelled m.labels (answer names m.base)

-- what is said of a labelled network where labels are taken: `answer` of the network that it is lowered to
abbrev pub of_lowered : NetworkAnswer → LabelledAnswer
of_lowered answer names m = answer names (lowered m)

-- what is said of a labelled network where a network is asked for, by whether labels are taken
abbrev pub by_labels : Bool → NetworkAnswer → LabelledAnswer
by_labels true = of_lowered
by_labels false = of_plain

-- what is said of a document: why it is refused, or `answer` of its labelled network
abbrev pub judged : LabelledAnswer → Result Parts Refusal → Plan
judged answer (Err refusal) = says (say Document (refusal_text refusal))
judged answer (Ok parts) = judges a_document parts (answer parts.names (labelled_of parts))

-- what is said of a file with these bytes: that it is too long, where they are more than 8,388,608, or else of its document
abbrev pub on_labelled : LabelledAnswer → List ℕ → Option ℕ → Plan
on_labelled answer bytes deadline =
    either_plan (nat_lt most_document (length bytes)) (says (say Document (codes "document long"))) (judged answer (document bytes deadline))

-- likewise where labels are refused, with `answer` of a network without labels
abbrev pub on_document : NetworkAnswer → List ℕ → Option ℕ → Plan
on_document answer bytes deadline = on_labelled (of_plain answer) bytes deadline

-- ---- of verdicts

-- what is said of a verdict on a network: `after_yes`, the refutation after no, or the cap where the log has more entries
abbrev pub plan_on_verdict : ℕ → List (List ℕ) → Network → Plan → Verdict → Plan
plan_on_verdict cap names net after_yes v = unless_said (unless_yes cap names net v) after_yes

-- ---- of texts

-- this is said by a text, which is refused where it has more than 1,476,395,008 bytes
abbrev pub IsByText : (Said → Type 0) → List ℕ → Said → Type 0
IsByText speaks text said =
    ((most_text < length text) × (said ≡ say Script (codes "script long"))) ⊎ ((length text ≤ most_text) × speaks said)
