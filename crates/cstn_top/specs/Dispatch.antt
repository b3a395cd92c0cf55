-- What each request says, and how it is answered.
use Rattle.std.specs.Prelude.{◌≡◌, ℕ, List, [], get_or, Option, None, Some, codes}
use Rattle.cstn_net.specs.Networks.{Network}
use Rattle.cstn_lift.specs.Labelled.{Labelled}
use Rattle.cstn_request.specs.Requests.{Request, of_network, of_labelled, of_text, of_document, of_plan, drill, host, version, network_labels, text_labels}
use Rattle.cstn_request.specs.declared.words.NetworkVerb.{NetworkVerb}
use Rattle.cstn_request.specs.declared.words.NetworkVerb.TheVariants.{Check, Closed, Tight, Conflict, Tree, Edit}
use Rattle.cstn_request.specs.declared.words.LabelledVerb.{LabelledVerb}
use Rattle.cstn_request.specs.declared.words.LabelledVerb.TheVariants.{Follow, Run, Cases}
use Rattle.cstn_request.specs.declared.words.TextVerb.{TextVerb}
use Rattle.cstn_request.specs.declared.words.TextVerb.TheVariants.{Replay, Closedcheck, Treecheck}
use Rattle.cstn_request.specs.declared.words.DocumentVerb.{DocumentVerb}
use Rattle.cstn_request.specs.declared.words.DocumentVerb.TheVariants.{Save, Sentences}
use Rattle.cstn_replay.specs.Texts.{IsReplayOf}
use Rattle.cstn_check.specs.Decisions.{checked}
use Rattle.cstn_closed.specs.Certificates.{IsCertificateOf}
use Rattle.cstn_tight.specs.Texts.{tightened}
use Rattle.cstn_conflict.specs.Texts.{blamed}
use Rattle.cstn_cases.specs.Told.{AreCasesSaid}
use Rattle.cstn_tree.specs.Unfolded.{IsUnfolded}
use Rattle.cstn_tree.specs.Checked.{tree_checked}
use Rattle.cstn_reply.specs.Texts.{Said, say}
use Rattle.cstn_reply.specs.declared.output.Outcome.TheVariants.{Words}
use Rattle.cstn_top.specs.Plans.{Plan, says, says_such}
use Rattle.cstn_top.specs.Answers.{NetworkAnswer, LabelledAnswer, by_labels, on_labelled, IsByText}
use Rattle.cstn_top.specs.Verdicts.{IsLabelledYes}
use Rattle.cstn_top.specs.Kinds.{AnswerKind, a_text, a_run, an_edit, a_follow, a_host}
use Rattle.cstn_top.specs.commands.Closed.{listed}
use Rattle.cstn_top.specs.commands.Edit.{edit_answer}
use Rattle.cstn_top.specs.commands.Follow.{follow_answer}
use Rattle.cstn_top.specs.commands.Run.{run_answer}
use Rattle.cstn_top.specs.commands.Save.{saved}
use Rattle.cstn_top.specs.commands.Sentences.{worded}
use Rattle.cstn_top.specs.commands.Plan.{planned}
use Rattle.cstn_top.specs.commands.Drill.{drilled}
use Rattle.cstn_top.specs.commands.Host.{hosted_plan}
use Rattle.cstn_top.specs.commands.Version.{versioned}

-- ---- verbs

-- what a verb says of a network, whose log may have so many entries
abbrev pub network_answer : NetworkVerb → ℕ → NetworkAnswer
network_answer Check cap names net = says (checked cap names net)
network_answer Closed cap names net = says (listed cap names net)
network_answer Tight cap names net = says (tightened cap names net)
network_answer Conflict cap names net = says (blamed cap names net)
network_answer Tree cap names net = says_such (IsUnfolded cap names net)
network_answer Edit cap names net = edit_answer cap names net

abbrev pub network_kind : NetworkVerb → AnswerKind
network_kind Check = a_text
network_kind Closed = a_text
network_kind Tight = a_text
network_kind Conflict = a_text
network_kind Tree = a_text
network_kind Edit = an_edit

-- what a verb says of a labelled network, whose log may have so many entries
abbrev pub labelled_answer : LabelledVerb → ℕ → LabelledAnswer
labelled_answer Follow cap = follow_answer cap
labelled_answer Run cap = run_answer cap
labelled_answer Cases cap = λ names m. says_such (AreCasesSaid cap names m)

abbrev pub labelled_kind : LabelledVerb → AnswerKind
labelled_kind Follow = a_follow
labelled_kind Run = a_run
labelled_kind Cases = a_text

-- a verb holds a session over a labelled network where this holds
abbrev pub HoldsSession : LabelledVerb → ℕ → Labelled → Type 0
HoldsSession Follow cap m = Unit {0}
HoldsSession Run cap m = IsLabelledYes cap m
HoldsSession Cases cap m = ⊥

-- this is what a verb says of a network by a text, which isn't too long
abbrev pub IsVerbText : TextVerb → List (List ℕ) → List ℕ → Network → Said → Type 0
IsVerbText Replay names text net said = IsReplayOf names text net said
IsVerbText Closedcheck names text net said = IsCertificateOf names text net said
IsVerbText Treecheck names text net said = said ≡ tree_checked text names net

-- what a verb says of a network by a text
abbrev pub text_answer : TextVerb → List ℕ → NetworkAnswer
text_answer verb text names net = says_such (IsByText (IsVerbText verb names text net) text)

-- what a verb says of the labelled network of a document
abbrev pub document_said : DocumentVerb → List (List ℕ) → Labelled → Said
document_said Save names m = saved names m
document_said Sentences names m = worded names m

abbrev pub document_answer : DocumentVerb → LabelledAnswer
document_answer verb names m = says (document_said verb names m)

-- ---- requests

-- the contents of FILE and of PROOF
abbrev pub file_in : List (List ℕ) → List ℕ
file_in contents = get_or contents 0 []

abbrev pub proof_in : List (List ℕ) → List ℕ
proof_in contents = get_or contents 1 []

-- the plan of a request whose files have these contents
abbrev pub plan_at : Request → List (List ℕ) → Plan
plan_at (of_network verb asked cap) contents = on_labelled (by_labels (network_labels verb) (network_answer verb cap)) (file_in contents) asked.deadline
plan_at (of_labelled verb asked cap) contents = on_labelled (labelled_answer verb cap) (file_in contents) asked.deadline
plan_at (of_text verb asked proof) contents = on_labelled (by_labels (text_labels verb) (text_answer verb (proof_in contents))) (file_in contents) asked.deadline
plan_at (of_document verb asked) contents = on_labelled (document_answer verb) (file_in contents) asked.deadline
plan_at (of_plan asked) contents = planned (file_in contents) asked.deadline
plan_at (drill number) contents = says (drilled number)
plan_at (host files deadline cap) contents = hosted_plan cap deadline contents
plan_at (version release) contents = says (versioned release)

-- the plan of the words of a call, which may be no request
abbrev pub plan_of : Option Request → List (List ℕ) → Plan
plan_of None contents = says (say Words (codes "words"))
plan_of (Some request) contents = plan_at request contents

-- how a request is answered
abbrev pub request_kind : Request → AnswerKind
request_kind (of_network verb asked cap) = network_kind verb
request_kind (of_labelled verb asked cap) = labelled_kind verb
request_kind (of_text verb asked proof) = a_text
request_kind (of_document verb asked) = a_text
request_kind (of_plan asked) = a_text
request_kind (drill number) = a_text
request_kind (host files deadline cap) = a_host
request_kind (version release) = a_text
