-- What is said of a document that was opened, as a plan.
use Rattle.std.proofs.Common.{◌≡◌, ℕ, ◌≤◌, ◌<◌, List, length, refl, ap, sym, ◌∙◌, subst, inl, inr, arith}
use Rattle.std.specs.Prelude.{nat_lt, Bool, true, false, Option, Result, Ok, Err, IfOk, codes}
use Rattle.cstn_net.specs.Networks.{Network}
use Rattle.cstn_net.specs.Read.{the_network}
use Rattle.cstn_text.specs.Limits.{most_text}
use Rattle.cstn_lift.specs.Labelled.{Labelled}
use Rattle.cstn_lift.specs.Read.{the_labelled}
use Rattle.cstn_element.specs.Results.{Refusal}
use Rattle.cstn_graphml.specs.Answers.{IsDocument}
use Rattle.cstn_graphml.specs.Document.{Parts, document}
use Rattle.cstn_graphml.specs.Networks.{network_of, labelled_of, IsFit}
use Rattle.cstn_reply.specs.Texts.{Said, say}
use Rattle.cstn_reply.specs.Read.{the_said}
use Rattle.cstn_reply.specs.declared.output.Said.{Said as SaidText}
use Rattle.cstn_reply.specs.declared.output.Outcome.TheVariants.{Document}
use Rattle.cstn_request.specs.Limits.{most_document}
use Rattle.cstn_request.specs.Documents.{AreUnlabelled, IsRefusalOfParts, IsSaidOf, IsLabelsTold, IsSaidPlainly}
use Rattle.cstn_request.specs.Opened.{IsLabelledOf, IsLoweredOf, IsPlainOf, IsDocumentRefusal, IsPlainRefusal}
use Rattle.cstn_request.specs.declared.reading.NamedNetwork.{NamedNetwork}
use Rattle.cstn_request.specs.declared.reading.NamedLabelled.{NamedLabelled}
use Rattle.cstn_top.specs.Plans.{Plan, says, either_plan, ComesTo}
use Rattle.cstn_top.specs.Answers.{NetworkAnswer, LabelledAnswer, Form, a_document, judges, unlabelled, of_plain, of_lowered, judged, on_labelled, on_document, IsByText}

at_most : (n m : ℕ) → m ≤ n → nat_lt n m ≡ false
at_most n m le = grind arith

above : (n m : ℕ) → n < m → nat_lt n m ≡ true
above n m lt = grind arith

-- what is said of a document that isn't too long
short_document : (answer : LabelledAnswer) (bytes : List ℕ) (deadline : Option ℕ) → length bytes ≤ most_document → on_labelled answer bytes deadline ≡ judged answer (document bytes deadline)
short_document answer bytes deadline short =
    ap (λ (long : Bool). either_plan long (says (say Document (codes "document long"))) (judged answer (document bytes deadline))) (at_most most_document (length bytes) short)

short_output : (answer : LabelledAnswer) (bytes : List ℕ) (deadline : Option ℕ) (live : List ℕ) (said : Said) → length bytes ≤ most_document → (judged answer (document bytes deadline)).output live said → (on_labelled answer bytes deadline).output live said
short_output answer bytes deadline live said short output = subst (λ (plan : Plan). plan.output live said) (sym (short_document answer bytes deadline short)) output

judged_output : (answer : LabelledAnswer) (parsed : Result Parts Refusal) (live : List ℕ) (said : Said) → IsRefusalOfParts parsed said → (judged answer parsed).output live said
judged_output answer (Err refusal) live said is = is
judged_output answer (Ok parts) live said is = inr is

labels_output : (answer : NetworkAnswer) (parsed : Result Parts Refusal) (live : List ℕ) (said : Said) → IsLabelsTold parsed said → (judged (of_plain answer) parsed).output live said
labels_output answer (Err refusal) live said is = absurd is
labels_output answer (Ok parts) live said (fit, labelled, is) = inl (fit, inr (labelled, is))

-- what is said of a file that is refused, whatever would be said of a labelled network
pub refusal_output : (answer : LabelledAnswer) (bytes : List ℕ) (deadline : Option ℕ) (said : Said) → IsSaidOf bytes deadline said → (live : List ℕ) → (on_labelled answer bytes deadline).output live said
refusal_output answer bytes deadline said (inl (long, is)) live =
    subst (λ (too_long : Bool). (either_plan too_long (says (say Document (codes "document long"))) (judged answer (document bytes deadline))).output live said) (sym (above most_document (length bytes) long)) is
refusal_output answer bytes deadline said (inr (short, is)) live =
    short_output answer bytes deadline live said short (judged_output answer (document bytes deadline) live said is)

-- likewise where labels are refused, whatever would be said of a network
pub plain_refusal_output : (answer : NetworkAnswer) (bytes : List ℕ) (deadline : Option ℕ) (said : Said) → IsSaidPlainly bytes deadline said → (live : List ℕ) → (on_document answer bytes deadline).output live said
plain_refusal_output answer bytes deadline said (inl is) live = refusal_output (of_plain answer) bytes deadline said is live
plain_refusal_output answer bytes deadline said (inr (short, is)) live =
    short_output (of_plain answer) bytes deadline live said short (labels_output answer (document bytes deadline) live said is)

-- a plan says what it says itself
pub comes_itself : (plan : Plan) → ComesTo plan plan
comes_itself plan = record { output = λ live said is. is; talks = λ may. may; fault = λ may taken. refl; stops = λ source said is. is }

pub comes_same : (plan other : Plan) → other ≡ plan → ComesTo plan other
comes_same plan other is = subst (ComesTo plan) (sym is) (comes_itself plan)

-- a plan whose output is always one text comes to that text
pub comes_to_text : (plan : Plan) (said : Said) → ((live : List ℕ) → plan.output live said) → ComesTo plan (says said)
comes_to_text plan said output = record {
  output = λ live other is. subst (λ (s : Said). plan.output live s) (sym is) (output live);
  talks = λ may. absurd may;
  fault = λ may taken. absurd may;
  stops = λ source said is. absurd is;
}

-- what is said of the parts of a document, where they make a network without labels
judges_comes : (parts : Parts) (plan other : Plan) → AreUnlabelled parts → ComesTo plan other → ComesTo (judges a_document parts (unlabelled parts.labels plan)) other
judges_comes parts plan other good comes = record {
  output = λ live said is. inl (good.0, inl (good.1, comes.output live said is));
  talks = λ may. (good.0, (good.1, comes.talks may));
  fault = λ may taken. comes.fault may taken;
  stops = λ source said is. (good.0, (good.1, comes.stops source said is));
}

-- what is said of a document that was accepted
pub accepted_comes : (answer : NetworkAnswer) (bytes : List ℕ) (deadline : Option ℕ) (d : NamedNetwork) (plan : Plan) → IsPlainOf bytes deadline d → ComesTo (answer d.names (the_network d.network)) plan → ComesTo (on_document answer bytes deadline) plan
accepted_comes answer bytes deadline d plan opens comes =
    let is = opens.is in
    let parts : Parts = is.parts in
    let same : on_document answer bytes deadline ≡ judges a_document parts (unlabelled parts.labels (answer d.names (the_network d.network))) =
    short_document (of_plain answer) bytes deadline opens.short
    ∙ ap (judged (of_plain answer)) is.told_are
    ∙ ap (λ (ns : List (List ℕ)). judges a_document parts (unlabelled parts.labels (answer ns (network_of parts)))) (sym is.names_are)
    ∙ ap (λ (n : Network). judges a_document parts (unlabelled parts.labels (answer d.names n))) (sym is.network_is) in
    subst (λ (p : Plan). ComesTo p plan) (sym same) (judges_comes parts (answer d.names (the_network d.network)) plan is.unlabelled comes)

-- what is said of a document that was refused
pub told_comes : (answer : NetworkAnswer) (bytes : List ℕ) (deadline : Option ℕ) (said : SaidText) → IsPlainRefusal bytes deadline said → ComesTo (on_document answer bytes deadline) (says (the_said said))
told_comes answer bytes deadline said opens = comes_to_text (on_document answer bytes deadline) (the_said said) (plain_refusal_output answer bytes deadline (the_said said) opens.0)

-- what is said of the parts of a file, where they make a labelled network
pub fit_comes : (form : Form) (parts : Parts) (plan other : Plan) → IsFit parts → ComesTo plan other → ComesTo (judges form parts plan) other
fit_comes form parts plan other fit comes = record {
  output = λ live said is. inl (fit, comes.output live said is);
  talks = λ may. (fit, comes.talks may);
  fault = λ may taken. comes.fault may taken;
  stops = λ source said is. (fit, comes.stops source said is);
}

-- what is said of a labelled network
document_comes : (answer : LabelledAnswer) (bytes : List ℕ) (deadline : Option ℕ) (m : Labelled) (names : List (List ℕ)) (plan : Plan) → length bytes ≤ most_document → IsDocument (document bytes deadline) m names → ComesTo (answer names m) plan → ComesTo (on_labelled answer bytes deadline) plan
document_comes answer bytes deadline m names plan short is comes =
    let same : on_labelled answer bytes deadline ≡ judges a_document is.parts (answer names m) =
    short_document answer bytes deadline short
    ∙ ap (judged answer) is.told_are
    ∙ ap (λ (ns : List (List ℕ)). judges a_document is.parts (answer ns (labelled_of is.parts))) (sym is.names_are)
    ∙ ap (λ (l : Labelled). judges a_document is.parts (answer names l)) (sym is.labelled_is) in
    subst (λ (p : Plan). ComesTo p plan) (sym same) (fit_comes a_document is.parts (answer names m) plan is.fit comes)

pub labelled_comes : (answer : LabelledAnswer) (bytes : List ℕ) (deadline : Option ℕ) (d : NamedLabelled) (plan : Plan) → IsLabelledOf bytes deadline d → ComesTo (answer d.names (the_labelled d.labelled)) plan → ComesTo (on_labelled answer bytes deadline) plan
labelled_comes answer bytes deadline d plan opens comes = document_comes answer bytes deadline (the_labelled d.labelled) d.names plan opens.short opens.is comes

-- what is said of the network that a labelled one is lowered to
pub lowered_comes : (answer : NetworkAnswer) (bytes : List ℕ) (deadline : Option ℕ) (d : NamedNetwork) (plan : Plan) → IsLoweredOf bytes deadline d → ComesTo (answer d.names (the_network d.network)) plan → ComesTo (on_labelled (of_lowered answer) bytes deadline) plan
lowered_comes answer bytes deadline d plan opens comes =
    document_comes (of_lowered answer) bytes deadline (the_labelled opens.labelled) d.names plan opens.short opens.is (subst (λ (n : Network). ComesTo (answer d.names n) plan) opens.network comes)

pub refused_comes : (answer : LabelledAnswer) (bytes : List ℕ) (deadline : Option ℕ) (said : SaidText) → IsDocumentRefusal bytes deadline said → ComesTo (on_labelled answer bytes deadline) (says (the_said said))
refused_comes answer bytes deadline said opens = comes_to_text (on_labelled answer bytes deadline) (the_said said) (refusal_output answer bytes deadline (the_said said) opens.0)

-- what comes to a plan comes to what that comes to
pub comes_through : (one two three : Plan) → ComesTo one two → ComesTo two three → ComesTo one three
comes_through one two three first later = record {
  output = λ live said is. first.output live said (later.output live said is);
  talks = λ may. first.talks (later.talks may);
  fault = λ may taken. later.fault may taken ∙ first.fault (later.talks may) taken;
  stops = λ source said is. first.stops source said (later.stops source said is);
}

-- what is said by a text that isn't too long
pub short_text : {E : Type 0} (speaks : Said → Type 0) (text : List ℕ) (r : Result SaidText E) → length text ≤ most_text → IfOk r (λ said. speaks (the_said said)) → IfOk r (λ said. IsByText speaks text (the_said said))
short_text speaks text (Err e) short is = tt
short_text speaks text (Ok said) short is = inr (short, is)
