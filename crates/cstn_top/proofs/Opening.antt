-- What a request asks, by what was read of its files.
use Rattle.std.proofs.Common.{◌≡◌, ℕ, ◌<◌, List, [], ◌∷◌, length, map, Vec, Global, refl, sym, ap, subst, inl, arith}
use Rattle.std.specs.Prelude.{nat_le, Bool, true, false, Option, Result, Err}
use Rattle.cstn_net.specs.Networks.{Network}
use Rattle.cstn_net.specs.Read.{the_network}
use Rattle.cstn_lift.specs.Read.{the_labelled}
use Rattle.cstn_request.specs.Requests.{AskedFile, Request, of_network, of_labelled, of_text, of_document, of_plan, drill, version, network_labels, text_labels, files_of}
use Rattle.cstn_request.specs.declared.words.Release.{Release}
use Rattle.cstn_request.specs.declared.words.NetworkVerb.{NetworkVerb}
use Rattle.cstn_request.specs.declared.words.LabelledVerb.{LabelledVerb}
use Rattle.cstn_request.specs.declared.words.TextVerb.{TextVerb}
use Rattle.cstn_request.specs.declared.words.DocumentVerb.{DocumentVerb}
use Rattle.cstn_log.specs.declared.caps.Cap.{Cap}
use Rattle.cstn_reply.specs.Texts.{Said}
use Rattle.cstn_reply.specs.Statuses.{status_of}
use Rattle.cstn_reply.specs.Read.{the_said}
use Rattle.cstn_reply.specs.declared.output.Said.{Said as SaidText}
use Rattle.cstn_reply.specs.declared.output.Outcome.{Outcome}
use Rattle.cstn_reply.specs.declared.output.Outcome.TheVariants.{Document}
use Rattle.cstn_reply.specs.declared.status.Status.{Status}
use Rattle.cstn_reply.specs.declared.status.Status.TheVariants.{Good as IsGood, Bad as IsBad, Words as IsWords, Document as IsRefusedStatus, Full as IsFull, ReadFault, WriteFault, Memory as NoMemory, Unfinished as IsUnfinished, Script as IsScript, Wide as IsWide}
use Rattle.cstn_graphml.specs.Document.{Parts}
use Rattle.cstn_sentences.specs.Limits.{most_plan}
use Rattle.cstn_sentences.specs.Plans.{plan}
use Rattle.cstn_sentences.specs.Refusals.{PlanRefusal, too_long}
use Rattle.cstn_request.specs.Limits.{most_document}
use Rattle.cstn_request.specs.Files.{file_bytes, IsContent, AreContents, AreThere}
use Rattle.cstn_request.specs.Opened.{HasFile, HasAskedFile, IsLabelledOf, IsNetworkOf, IsDocumentRefusal, IsNetworkRefusal, IsProofText, IsLongText, IsSentencesOf, IsLongPlan}
use Rattle.cstn_request.specs.declared.reading.NamedNetwork.{NamedNetwork}
use Rattle.cstn_request.specs.declared.reading.NamedLabelled.{NamedLabelled}
use Rattle.cstn_request.proofs.Contents.{one_content, two_contents, some_content, none_there, two_there}
use Rattle.cstn_top.specs.Plans.{Plan, says, ComesTo}
use Rattle.cstn_top.specs.Answers.{NetworkAnswer, LabelledAnswer, of_lowered, by_labels, on_labelled}
use Rattle.cstn_top.specs.Dispatch.{network_answer, labelled_answer, text_answer, document_answer, plan_at}
use Rattle.cstn_top.specs.commands.Plan.{planned_of, planned}
use Rattle.cstn_top.specs.Meanings.{files_read}
use Rattle.cstn_top.specs.Prepared.{Planned}
use Rattle.cstn_request.specs.Several.{IsSoundNetwork}
use Rattle.cstn_top.specs.Questions.{Asks, HasSmallIds, the_question}
use Rattle.cstn_top.specs.declared.commands.questions.Question.{Question}
use Rattle.cstn_top.specs.declared.commands.questions.Question.TheVariants.{OfNetwork, OfText, OfPlan, Drill, Version}
use Rattle.cstn_top.proofs.Comes.{comes_itself, comes_to_text, accepted_comes, told_comes, labelled_comes, lowered_comes, refused_comes}

-- where a file is there, so is what was read of it, whatever the status
pub one_read : (shelf : Option (List ℕ → Option (List ℕ))) (name : List ℕ) (status : Status) → AreThere shelf (name ∷ []) → AreThere shelf (files_read status (name ∷ []))
one_read shelf name IsGood there = there
one_read shelf name IsBad there = there
one_read shelf name IsWords there = none_there shelf
one_read shelf name IsRefusedStatus there = there
one_read shelf name IsFull there = there
one_read shelf name ReadFault there = none_there shelf
one_read shelf name WriteFault there = none_there shelf
one_read shelf name NoMemory there = none_there shelf
one_read shelf name IsUnfinished there = there
one_read shelf name IsScript there = there
one_read shelf name IsWide there = there

-- a request that is answered by the document of its file alone
pub record IsOfOne (request : Request) (asked : AskedFile) (answer : LabelledAnswer) : Type 1 where
  pub files : files_of request ≡ asked.file ∷ []
  pub plan : (bytes : List ℕ) → plan_at request (bytes ∷ []) ≡ on_labelled answer bytes asked.deadline

pub of_labelled_verb : (verb : LabelledVerb) (asked : AskedFile) (cap : ℕ) → IsOfOne (of_labelled verb asked cap) asked (labelled_answer verb cap)
of_labelled_verb verb asked cap = record { files = refl; plan = λ bytes. refl }

pub of_document_verb : (verb : DocumentVerb) (asked : AskedFile) → IsOfOne (of_document verb asked) asked (document_answer verb)
of_document_verb verb asked = record { files = refl; plan = λ bytes. refl }

-- ---- one document

-- what is asked of a document with these bytes
one_asked : (request : Request) (asked : AskedFile) (answer : LabelledAnswer) (shelf : Option (List ℕ → Option (List ℕ))) (bytes : List ℕ) (question : Question) → IsOfOne request asked answer → IsContent shelf asked.file bytes → AreThere shelf (asked.file ∷ []) → ComesTo (on_labelled answer bytes asked.deadline) (the_question question) → Asks request shelf question
one_asked request asked answer shelf bytes question one content there comes = record {
  contents = bytes ∷ [];
  are = λ files e. subst (λ (names : List (List ℕ)). (bytes ∷ []) ≡ map (file_bytes files) names) (sym one.files) (one_content shelf asked.file bytes content files e);
  comes = subst (λ (p : Plan). ComesTo p (the_question question)) (sym (one.plan bytes)) comes;
  there = subst (AreThere shelf) (sym one.files) there;
}

-- what is said in place of an answer where the document is refused
one_told : (request : Request) (asked : AskedFile) (answer : LabelledAnswer) (shelf : Option (List ℕ → Option (List ℕ))) (bytes : List ℕ) (said : SaidText) → IsOfOne request asked answer → IsContent shelf asked.file bytes → AreThere shelf (asked.file ∷ []) → ComesTo (on_labelled answer bytes asked.deadline) (says (the_said said)) → Planned request shelf (says (the_said said))
one_told request asked answer shelf bytes said one content there comes = record {
  contents = bytes ∷ [];
  are = λ files e. subst (λ (names : List (List ℕ)). (bytes ∷ []) ≡ map (file_bytes files) names) (sym one.files) (one_content shelf asked.file bytes content files e);
  comes = subst (λ (p : Plan). ComesTo p (says (the_said said))) (sym (one.plan bytes)) comes;
  there = λ live other output. subst (λ (names : List (List ℕ)). AreThere shelf (files_read (status_of other.outcome) names)) (sym one.files) (one_read shelf asked.file (status_of other.outcome) there);
}

-- what is said of the network of a document, by whether labels are taken
network_comes : (takes : Bool) (answer : NetworkAnswer) (bytes : List ℕ) (deadline : Option ℕ) (d : NamedNetwork) (plan : Plan) → IsNetworkOf takes bytes deadline d → ComesTo (answer d.names (the_network d.network)) plan → ComesTo (on_labelled (by_labels takes answer) bytes deadline) plan
network_comes true answer bytes deadline d plan opened comes = lowered_comes answer bytes deadline d plan opened comes
network_comes false answer bytes deadline d plan opened comes = accepted_comes answer bytes deadline d plan opened comes

-- likewise where it is refused
network_refused : (takes : Bool) (answer : NetworkAnswer) (bytes : List ℕ) (deadline : Option ℕ) (said : SaidText) → IsNetworkRefusal takes bytes deadline said → ComesTo (on_labelled (by_labels takes answer) bytes deadline) (says (the_said said))
network_refused true answer bytes deadline said refused = refused_comes (of_lowered answer) bytes deadline said refused
network_refused false answer bytes deadline said refused = told_comes answer bytes deadline said refused

pub network_outcome : (takes : Bool) (bytes : List ℕ) (deadline : Option ℕ) (said : SaidText) → IsNetworkRefusal takes bytes deadline said → said.outcome ≡ Document
network_outcome true bytes deadline said refused = refused.1
network_outcome false bytes deadline said refused = refused.1

-- what was read of a document is sound
pub network_sound : (takes : Bool) (bytes : List ℕ) (deadline : Option ℕ) (d : NamedNetwork) → IsNetworkOf takes bytes deadline d → IsSoundNetwork d × HasSmallIds takes d
network_sound true bytes deadline d opened = (record { well_formed = opened.well_formed; named = opened.names.named }, tt)
network_sound false bytes deadline d opened = (record { well_formed = opened.well_formed; named = opened.names.named }, opened.ids)

pub network_asked : (verb : NetworkVerb) (asked : AskedFile) (cap : Cap) (shelf : Option (List ℕ → Option (List ℕ))) (d : NamedNetwork) → HasAskedFile shelf asked (λ bytes deadline. IsNetworkOf (network_labels verb) bytes deadline d) → Asks (of_network verb asked cap.entries) shelf (OfNetwork verb d cap)
network_asked verb asked cap shelf d file =
    one_asked (of_network verb asked cap.entries) asked (by_labels (network_labels verb) (network_answer verb cap.entries)) shelf file.bytes (OfNetwork verb d cap) (record { files = refl; plan = λ bytes. refl }) file.content file.there
    (network_comes (network_labels verb) (network_answer verb cap.entries) file.bytes asked.deadline d (the_question (OfNetwork verb d cap)) file.is (comes_itself (the_question (OfNetwork verb d cap))))

pub network_told : (verb : NetworkVerb) (asked : AskedFile) (cap : ℕ) (shelf : Option (List ℕ → Option (List ℕ))) (said : SaidText) → HasAskedFile shelf asked (λ bytes deadline. IsNetworkRefusal (network_labels verb) bytes deadline said) → Planned (of_network verb asked cap) shelf (says (the_said said))
network_told verb asked cap shelf said file =
    one_told (of_network verb asked cap) asked (by_labels (network_labels verb) (network_answer verb cap)) shelf file.bytes said (record { files = refl; plan = λ bytes. refl }) file.content file.there
    (network_refused (network_labels verb) (network_answer verb cap) file.bytes asked.deadline said file.is)

pub labelled_asked : (request : Request) (asked : AskedFile) (answer : LabelledAnswer) (shelf : Option (List ℕ → Option (List ℕ))) (d : NamedLabelled) (question : Question) → IsOfOne request asked answer → the_question question ≡ answer d.names (the_labelled d.labelled) → HasAskedFile shelf asked (λ bytes deadline. IsLabelledOf bytes deadline d) → Asks request shelf question
labelled_asked request asked answer shelf d question one is file =
    one_asked request asked answer shelf file.bytes question one file.content file.there
    (labelled_comes answer file.bytes asked.deadline d (the_question question) file.is (subst (ComesTo (answer d.names (the_labelled d.labelled))) (sym is) (comes_itself (answer d.names (the_labelled d.labelled)))))

pub refused_told : (request : Request) (asked : AskedFile) (answer : LabelledAnswer) (shelf : Option (List ℕ → Option (List ℕ))) (said : SaidText) → IsOfOne request asked answer → HasAskedFile shelf asked (λ bytes deadline. IsDocumentRefusal bytes deadline said) → Planned request shelf (says (the_said said))
refused_told request asked answer shelf said one file = one_told request asked answer shelf file.bytes said one file.content file.there (refused_comes answer file.bytes asked.deadline said file.is)

-- ---- a document and a text

-- where two files are there, those of them that were read are, whatever the status
two_read : (shelf : Option (List ℕ → Option (List ℕ))) (name other : List ℕ) (status : Status) → AreThere shelf (name ∷ []) → AreThere shelf (other ∷ []) → AreThere shelf (files_read status (name ∷ other ∷ []))
two_read shelf name other IsGood one two = two_there shelf name other one two
two_read shelf name other IsBad one two = two_there shelf name other one two
two_read shelf name other IsWords one two = none_there shelf
two_read shelf name other IsRefusedStatus one two = one
two_read shelf name other IsFull one two = two_there shelf name other one two
two_read shelf name other ReadFault one two = none_there shelf
two_read shelf name other WriteFault one two = none_there shelf
two_read shelf name other NoMemory one two = none_there shelf
two_read shelf name other IsUnfinished one two = two_there shelf name other one two
two_read shelf name other IsScript one two = two_there shelf name other one two
two_read shelf name other IsWide one two = two_there shelf name other one two

-- a request that is answered by a document and by a text
pub record IsOfTwo (request : Request) (asked : AskedFile) (proof : List ℕ) (answers : List ℕ → LabelledAnswer) : Type 1 where
  pub files : files_of request ≡ asked.file ∷ proof ∷ []
  pub plan : (bytes text : List ℕ) → plan_at request (bytes ∷ text ∷ []) ≡ on_labelled (answers text) bytes asked.deadline

of_text_verb : (verb : TextVerb) (asked : AskedFile) (proof : List ℕ) → IsOfTwo (of_text verb asked proof) asked proof (λ text. by_labels (text_labels verb) (text_answer verb text))
of_text_verb verb asked proof = record { files = refl; plan = λ bytes text. refl }

-- what is asked of a document and a text with these bytes
two_asked : (request : Request) (asked : AskedFile) (proof : List ℕ) (answers : List ℕ → LabelledAnswer) (shelf : Option (List ℕ → Option (List ℕ))) (bytes text : List ℕ) (question : Question) → IsOfTwo request asked proof answers → IsContent shelf asked.file bytes → IsContent shelf proof text → AreThere shelf (asked.file ∷ []) → AreThere shelf (proof ∷ []) → ComesTo (on_labelled (answers text) bytes asked.deadline) (the_question question) → Asks request shelf question
two_asked request asked proof answers shelf bytes text question two content other there later comes = record {
  contents = bytes ∷ text ∷ [];
  are = subst (λ (files : List (List ℕ)). AreContents shelf files (bytes ∷ text ∷ [])) (sym two.files) (two_contents shelf asked.file proof bytes text content other);
  comes = subst (λ (p : Plan). ComesTo p (the_question question)) (sym (two.plan bytes text)) comes;
  there = subst (AreThere shelf) (sym two.files) (two_there shelf asked.file proof there later);
}

-- what is said in place of an answer where the document or the text is refused
two_told : (request : Request) (asked : AskedFile) (proof : List ℕ) (answers : List ℕ → LabelledAnswer) (shelf : Option (List ℕ → Option (List ℕ))) (bytes text : List ℕ) (said : SaidText) → IsOfTwo request asked proof answers → IsContent shelf asked.file bytes → IsContent shelf proof text → ComesTo (on_labelled (answers text) bytes asked.deadline) (says (the_said said)) → AreThere shelf (files_read (status_of (the_said said).outcome) (asked.file ∷ proof ∷ [])) → Planned request shelf (says (the_said said))
two_told request asked proof answers shelf bytes text said two content other comes there = record {
  contents = bytes ∷ text ∷ [];
  are = subst (λ (files : List (List ℕ)). AreContents shelf files (bytes ∷ text ∷ [])) (sym two.files) (two_contents shelf asked.file proof bytes text content other);
  comes = subst (λ (p : Plan). ComesTo p (says (the_said said))) (sym (two.plan bytes text)) comes;
  there = λ live another output. subst (λ (files : List (List ℕ)). AreThere shelf (files_read (status_of another.outcome) files)) (sym two.files)
      (subst (λ (o : Outcome). AreThere shelf (files_read (status_of o) (asked.file ∷ proof ∷ []))) (sym (ap (λ (s : Said). s.outcome) output)) there);
}

-- where the document was refused, only its file was read
refused_read : (shelf : Option (List ℕ → Option (List ℕ))) (name other : List ℕ) (outcome : Outcome) → outcome ≡ Document → AreThere shelf (name ∷ []) → AreThere shelf (files_read (status_of outcome) (name ∷ other ∷ []))
refused_read shelf name other outcome is there = subst (λ (o : Outcome). AreThere shelf (files_read (status_of o) (name ∷ other ∷ []))) (sym is) there

-- what is said by the same text is the same
by_text_of : (verb : TextVerb) (text bytes : List ℕ) (names : List (List ℕ)) (net : Network) → bytes ≡ text → text_answer verb bytes names net ≡ text_answer verb text names net
by_text_of verb text bytes names net same = ap (λ (xs : List ℕ). text_answer verb xs names net) same

pub text_asked : (verb : TextVerb) (asked : AskedFile) (proof : List ℕ) (shelf : Option (List ℕ → Option (List ℕ))) (d : NamedNetwork) (text : Vec ℕ Global) → HasAskedFile shelf asked (λ bytes deadline. IsNetworkOf (text_labels verb) bytes deadline d) → HasFile shelf proof (IsProofText text.items) → Asks (of_text verb asked proof) shelf (OfText verb d text)
text_asked verb asked proof shelf d text file other =
    two_asked (of_text verb asked proof) asked proof (λ t. by_labels (text_labels verb) (text_answer verb t)) shelf file.bytes other.bytes (OfText verb d text) (of_text_verb verb asked proof) file.content other.content file.there other.there
    (network_comes (text_labels verb) (text_answer verb other.bytes) file.bytes asked.deadline d (the_question (OfText verb d text)) file.is
    (subst (λ (p : Plan). ComesTo p (the_question (OfText verb d text))) (sym (by_text_of verb text.items other.bytes d.names (the_network d.network) other.is.0)) (comes_itself (the_question (OfText verb d text)))))

-- the document is refused, and the text isn't read
pub refused_before_text : (verb : TextVerb) (asked : AskedFile) (proof : List ℕ) (shelf : Option (List ℕ → Option (List ℕ))) (said : SaidText) → HasAskedFile shelf asked (λ bytes deadline. IsNetworkRefusal (text_labels verb) bytes deadline said) → Planned (of_text verb asked proof) shelf (says (the_said said))
refused_before_text verb asked proof shelf said file =
    let text = some_content shelf proof in
    two_told (of_text verb asked proof) asked proof (λ t. by_labels (text_labels verb) (text_answer verb t)) shelf file.bytes text.0 said (of_text_verb verb asked proof) file.content text.1
    (network_refused (text_labels verb) (text_answer verb text.0) file.bytes asked.deadline said file.is)
    (refused_read shelf asked.file proof (the_said said).outcome (network_outcome (text_labels verb) file.bytes asked.deadline said file.is) file.there)

-- the text is too long
pub long_after : (verb : TextVerb) (asked : AskedFile) (proof : List ℕ) (shelf : Option (List ℕ → Option (List ℕ))) (d : NamedNetwork) (said : SaidText) → HasAskedFile shelf asked (λ bytes deadline. IsNetworkOf (text_labels verb) bytes deadline d) → HasFile shelf proof (IsLongText said) → Planned (of_text verb asked proof) shelf (says (the_said said))
long_after verb asked proof shelf d said file other =
    two_told (of_text verb asked proof) asked proof (λ t. by_labels (text_labels verb) (text_answer verb t)) shelf file.bytes other.bytes said (of_text_verb verb asked proof) file.content other.content
    (network_comes (text_labels verb) (text_answer verb other.bytes) file.bytes asked.deadline d (says (the_said said)) file.is
    (comes_to_text (text_answer verb other.bytes d.names (the_network d.network)) (the_said said) (λ live. inl other.is)))
    (two_read shelf asked.file proof (status_of (the_said said).outcome) file.there other.there)

-- ---- a plan in sentences

pub plan_asked : (asked : AskedFile) (shelf : Option (List ℕ → Option (List ℕ))) (text : Vec ℕ Global) → HasFile shelf asked.file (IsSentencesOf text.items) → Asks (of_plan asked) shelf (OfPlan text asked.deadline)
plan_asked asked shelf text file = record {
  contents = file.bytes ∷ [];
  are = one_content shelf asked.file file.bytes file.content;
  comes = subst (λ (bytes : List ℕ). ComesTo (planned bytes asked.deadline) (planned text.items asked.deadline)) (sym file.is.0) (comes_itself (planned text.items asked.deadline));
  there = file.there;
}

-- a plan that is too long is refused as such
long_plan : (bytes : List ℕ) (deadline : Option ℕ) → most_document < length bytes → plan bytes deadline ≡ Err too_long
long_plan bytes deadline long = let over : nat_le (length bytes) most_plan ≡ false = beyond (length bytes) long in rw over refl
  where
    beyond : (n : ℕ) → most_document < n → nat_le n most_plan ≡ false
    beyond n long = grind arith

-- the plan is too long
pub plan_told : (asked : AskedFile) (shelf : Option (List ℕ → Option (List ℕ))) (said : SaidText) → HasFile shelf asked.file (IsLongPlan said) → Planned (of_plan asked) shelf (says (the_said said))
plan_told asked shelf said file = record {
  contents = file.bytes ∷ [];
  are = one_content shelf asked.file file.bytes file.content;
  comes = comes_to_text (planned file.bytes asked.deadline) (the_said said)
      (λ live. subst (λ (r : Result Parts PlanRefusal). (planned_of r).output live (the_said said)) (sym (long_plan file.bytes asked.deadline file.is.0)) file.is.1);
  there = λ live other output. one_read shelf asked.file (status_of other.outcome) file.there;
}

-- ---- no file

pub drill_asked : (number : ℕ) (shelf : Option (List ℕ → Option (List ℕ))) → Asks (drill number) shelf (Drill number)
drill_asked number shelf = record { contents = []; are = λ files e. refl; comes = comes_itself (the_question (Drill number)); there = none_there shelf }

pub version_asked : (release : Release) (shelf : Option (List ℕ → Option (List ℕ))) → Asks (version release) shelf (Version release)
version_asked release shelf = record { contents = []; are = λ files e. refl; comes = comes_itself (the_question (Version release)); there = none_there shelf }
