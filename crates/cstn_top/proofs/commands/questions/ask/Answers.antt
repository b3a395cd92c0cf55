use Rattle.std.proofs.Common.{◌≡◌, ◌≤◌, ℕ, Bool, List, [], ◌∷◌, length, map, string_bytes, Vec, Global, refl, ap, sym, subst}
use Rattle.std.specs.Prelude.{Option, Err, IsErrAnd}
use Rattle.cstn_text.specs.Limits.{most_text}
use Rattle.cstn_request.specs.Limits.{most_files}
use Rattle.cstn_request.specs.Requests.{of_network, of_labelled, of_document, of_plan, text_labels}
use Rattle.cstn_request.specs.declared.reading.NamedNetwork.{NamedNetwork}
use Rattle.cstn_request.specs.declared.reading.NamedLabelled.{NamedLabelled}
use Rattle.cstn_request.proofs.Contents.{none_there}
use Rattle.cstn_reply.specs.Texts.{Said}
use Rattle.cstn_request.specs.Read.{the_asked_file, the_request}
use Rattle.cstn_request.specs.declared.words.Request.{Request}
use Rattle.cstn_request.specs.Opened.{HasFile, HasAskedFile, IsProofText, IsLongText, IsNetworkOf, IsNetworkRefusal}
use Rattle.cstn_request.specs.declared.reading.Unread.TheVariants.{Told}
use Rattle.cstn_request.proofs.Opening.{handed_on}
use Rattle.cstn_top.specs.Kinds.{a_text, a_host}
use Rattle.cstn_top.specs.Dispatch.{labelled_answer, document_answer, network_kind, labelled_kind, request_kind}
use Rattle.cstn_top.specs.Questions.{Asks}
use Rattle.cstn_top.specs.declared.commands.questions.Question.TheVariants.{OfNetwork, OfLabelled, OfText, OfDocument, OfPlan, Drill, Host, Version}
use Rattle.cstn_top.proofs.Opening.{of_labelled_verb, of_document_verb, network_asked, network_told, network_sound, network_outcome, labelled_asked, refused_told, text_asked, refused_before_text, long_after, plan_asked, plan_told, drill_asked, version_asked}
use Rattle.cstn_top.proofs.FollowedDocuments.{labelled_ids}
use Rattle.cstn_top.proofs.Hosted.{host_asked}
use Rattle.cstn_top.proofs.Asking.{once_as, first_as, instead_as, one_instead, first_instead, text_instead, host_instead}
use Rattle.cstn_request.proofs.Asking.{and_none, and_more, first_once, only_once, once_told}
use Rattle.cstn_top.proofs.commands.questions.ask.Goals as goal

-- ---- of a network

pub returns-in_ok-document-in-OfNetwork-clause-asks : goal.returns-in_ok-document-in-OfNetwork-clause-asks
returns-in_ok-document-in-OfNetwork-clause-asks g c =
    subst (λ (r : Request). Asks (the_request r) (g.F.Shelf.files c.args.shelf.now) (OfNetwork c.in-OfNetwork.verb c.in_ok-document-in-OfNetwork.document c.in-OfNetwork.cap)) (sym c.in-OfNetwork.is)
    (network_asked c.in-OfNetwork.verb (the_asked_file c.in-OfNetwork.asked) c.in-OfNetwork.cap (g.F.Shelf.files c.args.shelf.now) c.in_ok-document-in-OfNetwork.document
    (subst (λ (takes : Bool). HasAskedFile (g.F.Shelf.files c.args.shelf.now) (the_asked_file c.in-OfNetwork.asked) (λ bytes deadline. IsNetworkOf takes bytes deadline c.in_ok-document-in-OfNetwork.document)) c.takes_labels.ensures.taken c.in_ok-document-in-OfNetwork.ensures.opened))

pub returns-in_ok-document-in-OfNetwork-clause-kind : goal.returns-in_ok-document-in-OfNetwork-clause-kind
returns-in_ok-document-in-OfNetwork-clause-kind g c =
    subst (λ (r : Request). network_kind c.in-OfNetwork.verb ≡ request_kind (the_request r)) (sym c.in-OfNetwork.is) refl

pub returns-in_ok-document-in-OfNetwork-clause-sound : goal.returns-in_ok-document-in-OfNetwork-clause-sound
returns-in_ok-document-in-OfNetwork-clause-sound g c =
    let opened = subst (λ (takes : Bool). HasAskedFile (g.F.Shelf.files c.args.shelf.now) (the_asked_file c.in-OfNetwork.asked) (λ bytes deadline. IsNetworkOf takes bytes deadline c.in_ok-document-in-OfNetwork.document)) c.takes_labels.ensures.taken c.in_ok-document-in-OfNetwork.ensures.opened in
    network_sound _ opened.bytes c.in-OfNetwork.asked.deadline c.in_ok-document-in-OfNetwork.document opened.is

pub returns-in_err-document-in-OfNetwork-clause-refused : goal.returns-in_err-document-in-OfNetwork-clause-refused
returns-in_err-document-in-OfNetwork-clause-refused g c said e =
    let told : IsErrAnd c.from_residual.result (λ x. x ≡ c.in_err-document-in-OfNetwork.field-0.0) = c.from_residual.ensures.1 in
    let field_is = handed_on c.from_residual.result c.in_err-document-in-OfNetwork.field-0.0 (Told said) told e in
    let file = subst (λ (takes : Bool). HasAskedFile (g.F.Shelf.files c.args.shelf.now) (the_asked_file c.in-OfNetwork.asked) (λ bytes deadline. IsNetworkRefusal takes bytes deadline said)) c.takes_labels.ensures.taken
    (c.in_err-document-in-OfNetwork.ensures.refused said (ap Err field_is)) in
    instead_as (g.F.Shelf.files c.args.shelf.now) _ _ said _ _ c.in-OfNetwork.is
    (one_instead (of_network c.in-OfNetwork.verb (the_asked_file c.in-OfNetwork.asked) c.in-OfNetwork.cap.entries) (g.F.Shelf.files c.args.shelf.now) _ _ said c.in-OfNetwork.asked.file.now refl
    (network_told c.in-OfNetwork.verb (the_asked_file c.in-OfNetwork.asked) c.in-OfNetwork.cap.entries (g.F.Shelf.files c.args.shelf.now) said file)
    (once_told NamedNetwork c.in-OfNetwork.asked.file.now _ _ c.in_err-document-in-OfNetwork.field-0.0 said field_is c.in_err-document-in-OfNetwork.ensures.once) file.there (λ read. read))

pub returns-in_err-document-in-OfNetwork-clause-first : goal.returns-in_err-document-in-OfNetwork-clause-first
returns-in_err-document-in-OfNetwork-clause-first g c = λ is.
    first_as (g.F.Shelf.files c.args.shelf.now) _ _ _ _ c.in-OfNetwork.is
    (only_once {T = NamedNetwork} (g.F.Shelf.files c.args.shelf.now) _ _ c.in-OfNetwork.asked.file.now [] (Err c.in_err-document-in-OfNetwork.field-0.0) (none_there (g.F.Shelf.files c.args.shelf.now)) c.in_err-document-in-OfNetwork.ensures.once)

pub returns-in_ok-document-in-OfNetwork-clause-once : goal.returns-in_ok-document-in-OfNetwork-clause-once
returns-in_ok-document-in-OfNetwork-clause-once g c = once_as _ _ _ _ c.in-OfNetwork.is c.in_ok-document-in-OfNetwork.ensures.once

-- ---- of a labelled network

pub returns-in_ok-document-in-OfLabelled-clause-asks : goal.returns-in_ok-document-in-OfLabelled-clause-asks
returns-in_ok-document-in-OfLabelled-clause-asks g c =
    subst (λ (r : Request). Asks (the_request r) (g.F.Shelf.files c.args.shelf.now) (OfLabelled c.in-OfLabelled.verb c.in_ok-document-in-OfLabelled.document c.in-OfLabelled.cap)) (sym c.in-OfLabelled.is)
    (labelled_asked (of_labelled c.in-OfLabelled.verb (the_asked_file c.in-OfLabelled.asked) c.in-OfLabelled.cap.entries) (the_asked_file c.in-OfLabelled.asked) (labelled_answer c.in-OfLabelled.verb c.in-OfLabelled.cap.entries) (g.F.Shelf.files c.args.shelf.now) c.in_ok-document-in-OfLabelled.document
    (OfLabelled c.in-OfLabelled.verb c.in_ok-document-in-OfLabelled.document c.in-OfLabelled.cap) (of_labelled_verb c.in-OfLabelled.verb (the_asked_file c.in-OfLabelled.asked) c.in-OfLabelled.cap.entries) refl c.in_ok-document-in-OfLabelled.ensures.opened)

pub returns-in_ok-document-in-OfLabelled-clause-kind : goal.returns-in_ok-document-in-OfLabelled-clause-kind
returns-in_ok-document-in-OfLabelled-clause-kind g c =
    subst (λ (r : Request). labelled_kind c.in-OfLabelled.verb ≡ request_kind (the_request r)) (sym c.in-OfLabelled.is) refl

pub returns-in_ok-document-in-OfLabelled-clause-sound : goal.returns-in_ok-document-in-OfLabelled-clause-sound
returns-in_ok-document-in-OfLabelled-clause-sound g c =
    let opened = c.in_ok-document-in-OfLabelled.ensures.opened in
    (opened.is.names, labelled_ids opened.bytes c.in-OfLabelled.asked.deadline c.in_ok-document-in-OfLabelled.document opened.is)

pub returns-in_err-document-in-OfLabelled-clause-refused : goal.returns-in_err-document-in-OfLabelled-clause-refused
returns-in_err-document-in-OfLabelled-clause-refused g c said e =
    let told : IsErrAnd c.from_residual-in_err-document-in-OfLabelled.result (λ x. x ≡ c.in_err-document-in-OfLabelled.field-0.0) = c.from_residual-in_err-document-in-OfLabelled.ensures.1 in
    let field_is = handed_on c.from_residual-in_err-document-in-OfLabelled.result c.in_err-document-in-OfLabelled.field-0.0 (Told said) told e in
    let file = c.in_err-document-in-OfLabelled.ensures.refused said (ap Err field_is) in
    instead_as (g.F.Shelf.files c.args.shelf.now) _ _ said _ _ c.in-OfLabelled.is
    (one_instead (of_labelled c.in-OfLabelled.verb (the_asked_file c.in-OfLabelled.asked) c.in-OfLabelled.cap.entries) (g.F.Shelf.files c.args.shelf.now) _ _ said c.in-OfLabelled.asked.file.now refl
    (refused_told (of_labelled c.in-OfLabelled.verb (the_asked_file c.in-OfLabelled.asked) c.in-OfLabelled.cap.entries) (the_asked_file c.in-OfLabelled.asked) (labelled_answer c.in-OfLabelled.verb c.in-OfLabelled.cap.entries) (g.F.Shelf.files c.args.shelf.now) said (of_labelled_verb c.in-OfLabelled.verb (the_asked_file c.in-OfLabelled.asked) c.in-OfLabelled.cap.entries) file)
    (once_told NamedLabelled c.in-OfLabelled.asked.file.now _ _ c.in_err-document-in-OfLabelled.field-0.0 said field_is c.in_err-document-in-OfLabelled.ensures.once) file.there (λ read. read))

pub returns-in_err-document-in-OfLabelled-clause-first : goal.returns-in_err-document-in-OfLabelled-clause-first
returns-in_err-document-in-OfLabelled-clause-first g c = λ is.
    first_as (g.F.Shelf.files c.args.shelf.now) _ _ _ _ c.in-OfLabelled.is
    (only_once {T = NamedLabelled} (g.F.Shelf.files c.args.shelf.now) _ _ c.in-OfLabelled.asked.file.now [] (Err c.in_err-document-in-OfLabelled.field-0.0) (none_there (g.F.Shelf.files c.args.shelf.now)) c.in_err-document-in-OfLabelled.ensures.once)

pub returns-in_ok-document-in-OfLabelled-clause-once : goal.returns-in_ok-document-in-OfLabelled-clause-once
returns-in_ok-document-in-OfLabelled-clause-once g c = once_as _ _ _ _ c.in-OfLabelled.is c.in_ok-document-in-OfLabelled.ensures.once

-- ---- of a network and a text

pub returns-in_ok-text-in-OfText-clause-asks : goal.returns-in_ok-text-in-OfText-clause-asks
returns-in_ok-text-in-OfText-clause-asks g c =
    subst (λ (r : Request). Asks (the_request r) (g.F.Shelf.files c.args.shelf.now) (OfText c.in-OfText.verb c.in_ok-document-in-OfText.document c.in_ok-text-in-OfText.text)) (sym c.in-OfText.is)
    (text_asked c.in-OfText.verb (the_asked_file c.in-OfText.asked) c.in-OfText.proof.now (g.F.Shelf.files c.args.shelf.now) c.in_ok-document-in-OfText.document c.in_ok-text-in-OfText.text
    (subst (λ (takes : Bool). HasAskedFile (g.F.Shelf.files c.args.shelf.now) (the_asked_file c.in-OfText.asked) (λ bytes deadline. IsNetworkOf takes bytes deadline c.in_ok-document-in-OfText.document)) c.takes_labels-in-OfText.ensures.taken c.in_ok-document-in-OfText.ensures.opened)
    (subst (λ (t : Option (List ℕ → Option (List ℕ))). HasFile t c.in-OfText.proof.now (IsProofText c.in_ok-text-in-OfText.text.items)) c.in_ok-document-in-OfText.ensures.files c.in_ok-text-in-OfText.ensures.text))

pub returns-in_ok-text-in-OfText-clause-kind : goal.returns-in_ok-text-in-OfText-clause-kind
returns-in_ok-text-in-OfText-clause-kind g c = subst (λ (r : Request). a_text ≡ request_kind (the_request r)) (sym c.in-OfText.is) refl

pub returns-in_ok-text-in-OfText-clause-sound : goal.returns-in_ok-text-in-OfText-clause-sound
returns-in_ok-text-in-OfText-clause-sound g c =
    let opened = c.in_ok-document-in-OfText.ensures.opened in
    let read = c.in_ok-text-in-OfText.ensures.text.is in
    ((network_sound _ opened.bytes c.in-OfText.asked.deadline c.in_ok-document-in-OfText.document opened.is).0, subst (λ (bytes : List ℕ). length bytes ≤ most_text) read.0 read.1)

pub returns-in_err-document-in-OfText-clause-refused : goal.returns-in_err-document-in-OfText-clause-refused
returns-in_err-document-in-OfText-clause-refused g c said e =
    let told : IsErrAnd c.from_residual-in_err-document-in-OfText.result (λ x. x ≡ c.in_err-document-in-OfText.field-0.0) = c.from_residual-in_err-document-in-OfText.ensures.1 in
    let field_is = handed_on c.from_residual-in_err-document-in-OfText.result c.in_err-document-in-OfText.field-0.0 (Told said) told e in
    let file = subst (λ (takes : Bool). HasAskedFile (g.F.Shelf.files c.args.shelf.now) (the_asked_file c.in-OfText.asked) (λ bytes deadline. IsNetworkRefusal takes bytes deadline said)) c.takes_labels-in-OfText.ensures.taken
    (c.in_err-document-in-OfText.ensures.refused said (ap Err field_is)) in
    instead_as (g.F.Shelf.files c.args.shelf.now) _ _ said _ _ c.in-OfText.is
    (first_instead c.in-OfText.verb (the_asked_file c.in-OfText.asked) c.in-OfText.proof.now (g.F.Shelf.files c.args.shelf.now) _ _ said (network_outcome (text_labels c.in-OfText.verb) file.bytes c.in-OfText.asked.deadline said file.is)
    (refused_before_text c.in-OfText.verb (the_asked_file c.in-OfText.asked) c.in-OfText.proof.now (g.F.Shelf.files c.args.shelf.now) said file)
    (once_told NamedNetwork c.in-OfText.asked.file.now _ _ c.in_err-document-in-OfText.field-0.0 said field_is c.in_err-document-in-OfText.ensures.once) file.there)

pub returns-in_err-document-in-OfText-clause-first : goal.returns-in_err-document-in-OfText-clause-first
returns-in_err-document-in-OfText-clause-first g c = λ is.
    first_as (g.F.Shelf.files c.args.shelf.now) _ _ _ _ c.in-OfText.is
    (only_once {T = NamedNetwork} (g.F.Shelf.files c.args.shelf.now) _ _ c.in-OfText.asked.file.now (c.in-OfText.proof.now ∷ []) (Err c.in_err-document-in-OfText.field-0.0) (none_there (g.F.Shelf.files c.args.shelf.now)) c.in_err-document-in-OfText.ensures.once)

pub returns-in_err-text-in-OfText-clause-refused : goal.returns-in_err-text-in-OfText-clause-refused
returns-in_err-text-in-OfText-clause-refused g c said e =
    let told : IsErrAnd c.from_residual-in_err-text-in-OfText.result (λ x. x ≡ c.in_err-text-in-OfText.field-0.0) = c.from_residual-in_err-text-in-OfText.ensures.1 in
    let field_is = handed_on c.from_residual-in_err-text-in-OfText.result c.in_err-text-in-OfText.field-0.0 (Told said) told e in
    let file = subst (λ (takes : Bool). HasAskedFile (g.F.Shelf.files c.args.shelf.now) (the_asked_file c.in-OfText.asked) (λ bytes deadline. IsNetworkOf takes bytes deadline c.in_ok-document-in-OfText.document)) c.takes_labels-in-OfText.ensures.taken c.in_ok-document-in-OfText.ensures.opened in
    let other = subst (λ (t : Option (List ℕ → Option (List ℕ))). HasFile t c.in-OfText.proof.now (IsLongText said)) c.in_ok-document-in-OfText.ensures.files (c.in_err-text-in-OfText.ensures.refused said (ap Err field_is)) in
    instead_as (g.F.Shelf.files c.args.shelf.now) _ _ said _ _ c.in-OfText.is
    (text_instead c.in-OfText.verb (the_asked_file c.in-OfText.asked) c.in-OfText.proof.now (g.F.Shelf.files c.args.shelf.now) _ _ _ said (ap (λ (s : Said). s.outcome) other.is.1)
    (long_after c.in-OfText.verb (the_asked_file c.in-OfText.asked) c.in-OfText.proof.now (g.F.Shelf.files c.args.shelf.now) c.in_ok-document-in-OfText.document said file other)
    c.in_ok-document-in-OfText.ensures.once (once_told (Vec ℕ Global) c.in-OfText.proof.now _ _ c.in_err-text-in-OfText.field-0.0 said field_is c.in_err-text-in-OfText.ensures.once) file.there other.there)

pub returns-in_err-text-in-OfText-clause-first : goal.returns-in_err-text-in-OfText-clause-first
returns-in_err-text-in-OfText-clause-first g c = λ is.
    first_as (g.F.Shelf.files c.args.shelf.now) _ _ _ _ c.in-OfText.is
    (first_once (g.F.Shelf.files c.args.shelf.now) _ _ _ (c.in-OfText.asked.file.now ∷ []) c.in_ok-document-in-OfText.ensures.once c.in_ok-document-in-OfText.ensures.opened.there {T = Vec ℕ Global} c.in-OfText.proof.now []
    (Err c.in_err-text-in-OfText.field-0.0) c.in_err-text-in-OfText.ensures.once)

pub returns-in_ok-text-in-OfText-clause-once : goal.returns-in_ok-text-in-OfText-clause-once
returns-in_ok-text-in-OfText-clause-once g c =
    once_as _ _ _ _ c.in-OfText.is (and_more _ _ _ (c.in-OfText.asked.file.now ∷ []) (c.in-OfText.proof.now ∷ []) c.in_ok-document-in-OfText.ensures.once c.in_ok-text-in-OfText.ensures.once)

-- ---- of a document

pub returns-in_ok-document-in-OfDocument-clause-asks : goal.returns-in_ok-document-in-OfDocument-clause-asks
returns-in_ok-document-in-OfDocument-clause-asks g c =
    subst (λ (r : Request). Asks (the_request r) (g.F.Shelf.files c.args.shelf.now) (OfDocument c.in-OfDocument.verb c.in_ok-document-in-OfDocument.document)) (sym c.in-OfDocument.is)
    (labelled_asked (of_document c.in-OfDocument.verb (the_asked_file c.in-OfDocument.asked)) (the_asked_file c.in-OfDocument.asked) (document_answer c.in-OfDocument.verb) (g.F.Shelf.files c.args.shelf.now) c.in_ok-document-in-OfDocument.document
    (OfDocument c.in-OfDocument.verb c.in_ok-document-in-OfDocument.document) (of_document_verb c.in-OfDocument.verb (the_asked_file c.in-OfDocument.asked)) refl c.in_ok-document-in-OfDocument.ensures.opened)

pub returns-in_ok-document-in-OfDocument-clause-kind : goal.returns-in_ok-document-in-OfDocument-clause-kind
returns-in_ok-document-in-OfDocument-clause-kind g c = subst (λ (r : Request). a_text ≡ request_kind (the_request r)) (sym c.in-OfDocument.is) refl

pub returns-in_ok-document-in-OfDocument-clause-sound : goal.returns-in_ok-document-in-OfDocument-clause-sound
returns-in_ok-document-in-OfDocument-clause-sound g c = c.in_ok-document-in-OfDocument.ensures.opened.is.names

pub returns-in_err-document-in-OfDocument-clause-refused : goal.returns-in_err-document-in-OfDocument-clause-refused
returns-in_err-document-in-OfDocument-clause-refused g c said e =
    let told : IsErrAnd c.from_residual-in_err-document-in-OfDocument.result (λ x. x ≡ c.in_err-document-in-OfDocument.field-0.0) = c.from_residual-in_err-document-in-OfDocument.ensures.1 in
    let field_is = handed_on c.from_residual-in_err-document-in-OfDocument.result c.in_err-document-in-OfDocument.field-0.0 (Told said) told e in
    let file = c.in_err-document-in-OfDocument.ensures.refused said (ap Err field_is) in
    instead_as (g.F.Shelf.files c.args.shelf.now) _ _ said _ _ c.in-OfDocument.is
    (one_instead (of_document c.in-OfDocument.verb (the_asked_file c.in-OfDocument.asked)) (g.F.Shelf.files c.args.shelf.now) _ _ said c.in-OfDocument.asked.file.now refl
    (refused_told (of_document c.in-OfDocument.verb (the_asked_file c.in-OfDocument.asked)) (the_asked_file c.in-OfDocument.asked) (document_answer c.in-OfDocument.verb) (g.F.Shelf.files c.args.shelf.now) said (of_document_verb c.in-OfDocument.verb (the_asked_file c.in-OfDocument.asked)) file)
    (once_told NamedLabelled c.in-OfDocument.asked.file.now _ _ c.in_err-document-in-OfDocument.field-0.0 said field_is c.in_err-document-in-OfDocument.ensures.once) file.there (λ read. read))

pub returns-in_err-document-in-OfDocument-clause-first : goal.returns-in_err-document-in-OfDocument-clause-first
returns-in_err-document-in-OfDocument-clause-first g c = λ is.
    first_as (g.F.Shelf.files c.args.shelf.now) _ _ _ _ c.in-OfDocument.is
    (only_once {T = NamedLabelled} (g.F.Shelf.files c.args.shelf.now) _ _ c.in-OfDocument.asked.file.now [] (Err c.in_err-document-in-OfDocument.field-0.0) (none_there (g.F.Shelf.files c.args.shelf.now)) c.in_err-document-in-OfDocument.ensures.once)

pub returns-in_ok-document-in-OfDocument-clause-once : goal.returns-in_ok-document-in-OfDocument-clause-once
returns-in_ok-document-in-OfDocument-clause-once g c = once_as _ _ _ _ c.in-OfDocument.is c.in_ok-document-in-OfDocument.ensures.once

-- ---- of a plan in sentences

pub returns-in_ok-text-in-OfPlan-clause-asks : goal.returns-in_ok-text-in-OfPlan-clause-asks
returns-in_ok-text-in-OfPlan-clause-asks g c =
    subst (λ (r : Request). Asks (the_request r) (g.F.Shelf.files c.args.shelf.now) (OfPlan c.in_ok-text-in-OfPlan.text c.in-OfPlan.asked.deadline)) (sym c.in-OfPlan.is)
    (plan_asked (the_asked_file c.in-OfPlan.asked) (g.F.Shelf.files c.args.shelf.now) c.in_ok-text-in-OfPlan.text c.in_ok-text-in-OfPlan.ensures.text)

pub returns-in_ok-text-in-OfPlan-clause-kind : goal.returns-in_ok-text-in-OfPlan-clause-kind
returns-in_ok-text-in-OfPlan-clause-kind g c = subst (λ (r : Request). a_text ≡ request_kind (the_request r)) (sym c.in-OfPlan.is) refl

pub returns-in_err-text-in-OfPlan-clause-refused : goal.returns-in_err-text-in-OfPlan-clause-refused
returns-in_err-text-in-OfPlan-clause-refused g c said e =
    let told : IsErrAnd c.from_residual-in_err-text-in-OfPlan.result (λ x. x ≡ c.in_err-text-in-OfPlan.field-0.0) = c.from_residual-in_err-text-in-OfPlan.ensures.1 in
    let field_is = handed_on c.from_residual-in_err-text-in-OfPlan.result c.in_err-text-in-OfPlan.field-0.0 (Told said) told e in
    let file = c.in_err-text-in-OfPlan.ensures.refused said (ap Err field_is) in
    instead_as (g.F.Shelf.files c.args.shelf.now) _ _ said _ _ c.in-OfPlan.is
    (one_instead (of_plan (the_asked_file c.in-OfPlan.asked)) (g.F.Shelf.files c.args.shelf.now) _ _ said c.in-OfPlan.asked.file.now refl
    (plan_told (the_asked_file c.in-OfPlan.asked) (g.F.Shelf.files c.args.shelf.now) said file)
    (once_told (Vec ℕ Global) c.in-OfPlan.asked.file.now _ _ c.in_err-text-in-OfPlan.field-0.0 said field_is c.in_err-text-in-OfPlan.ensures.once) file.there (λ read. read))

pub returns-in_err-text-in-OfPlan-clause-first : goal.returns-in_err-text-in-OfPlan-clause-first
returns-in_err-text-in-OfPlan-clause-first g c = λ is.
    first_as (g.F.Shelf.files c.args.shelf.now) _ _ _ _ c.in-OfPlan.is
    (only_once {T = Vec ℕ Global} (g.F.Shelf.files c.args.shelf.now) _ _ c.in-OfPlan.asked.file.now [] (Err c.in_err-text-in-OfPlan.field-0.0) (none_there (g.F.Shelf.files c.args.shelf.now)) c.in_err-text-in-OfPlan.ensures.once)

pub returns-in_ok-text-in-OfPlan-clause-once : goal.returns-in_ok-text-in-OfPlan-clause-once
returns-in_ok-text-in-OfPlan-clause-once g c = once_as _ _ _ _ c.in-OfPlan.is c.in_ok-text-in-OfPlan.ensures.once

-- ---- of files, and of none

pub returns-in_ok-documents-in-Host-clause-asks : goal.returns-in_ok-documents-in-Host-clause-asks
returns-in_ok-documents-in-Host-clause-asks g c =
    subst (λ (r : Request). Asks (the_request r) (g.F.Shelf.files c.args.shelf.now) (Host c.in_ok-documents-in-Host.documents c.in-Host.cap)) (sym c.in-Host.is)
    (host_asked (g.F.Shelf.files c.args.shelf.now) c.in-Host.cap c.in-Host.deadline (map string_bytes c.in-Host.files.names.now) c.in_ok-documents-in-Host.documents c.in_ok-documents-in-Host.ensures.read)

pub returns-in_ok-documents-in-Host-clause-kind : goal.returns-in_ok-documents-in-Host-clause-kind
returns-in_ok-documents-in-Host-clause-kind g c = subst (λ (r : Request). a_host ≡ request_kind (the_request r)) (sym c.in-Host.is) refl

pub returns-in_ok-documents-in-Host-clause-sound : goal.returns-in_ok-documents-in-Host-clause-sound
returns-in_ok-documents-in-Host-clause-sound g c =
    let many = c.in_ok-documents-in-Host.ensures.many in
    (c.in_ok-documents-in-Host.ensures.sound, subst (λ (n : ℕ). 1 ≤ n) (sym many) c.in-Host.files.some, subst (λ (n : ℕ). n ≤ most_files) (sym many) c.in-Host.files.most)

pub returns-in_err-documents-in-Host-clause-refused : goal.returns-in_err-documents-in-Host-clause-refused
returns-in_err-documents-in-Host-clause-refused g c said e =
    let told : IsErrAnd c.from_residual-in_err-documents-in-Host.result (λ x. x ≡ c.in_err-documents-in-Host.field-0.0) = c.from_residual-in_err-documents-in-Host.ensures.1 in
    let field_is = handed_on c.from_residual-in_err-documents-in-Host.result c.in_err-documents-in-Host.field-0.0 (Told said) told e in
    instead_as (g.F.Shelf.files c.args.shelf.now) _ _ said _ _ c.in-Host.is
    (host_instead (g.F.Shelf.files c.args.shelf.now) _ _ c.in-Host.cap.entries c.in-Host.deadline (map string_bytes c.in-Host.files.names.now) said (c.in_err-documents-in-Host.ensures.refused said (ap Err field_is)))

pub returns-in_err-documents-in-Host-clause-first : goal.returns-in_err-documents-in-Host-clause-first
returns-in_err-documents-in-Host-clause-first g c = λ is.
    first_as (g.F.Shelf.files c.args.shelf.now) _ _ _ _ c.in-Host.is (c.in_err-documents-in-Host.ensures.first refl)

pub returns-in_ok-documents-in-Host-clause-once : goal.returns-in_ok-documents-in-Host-clause-once
returns-in_ok-documents-in-Host-clause-once g c = once_as _ _ _ _ c.in-Host.is c.in_ok-documents-in-Host.ensures.once

pub returns-in-Drill-clause-once : goal.returns-in-Drill-clause-once
returns-in-Drill-clause-once g c = once_as _ _ _ _ c.in-Drill.is (and_none _)

pub returns-in-Version-clause-once : goal.returns-in-Version-clause-once
returns-in-Version-clause-once g c = once_as _ _ _ _ c.in-Version.is (and_none _)

pub returns-in-Drill-clause-asks : goal.returns-in-Drill-clause-asks
returns-in-Drill-clause-asks g c =
    subst (λ (r : Request). Asks (the_request r) (g.F.Shelf.files c.args.shelf.now) (Drill c.in-Drill.number)) (sym c.in-Drill.is) (drill_asked c.in-Drill.number (g.F.Shelf.files c.args.shelf.now))

pub returns-in-Drill-clause-kind : goal.returns-in-Drill-clause-kind
returns-in-Drill-clause-kind g c = subst (λ (r : Request). a_text ≡ request_kind (the_request r)) (sym c.in-Drill.is) refl

pub returns-in-Version-clause-asks : goal.returns-in-Version-clause-asks
returns-in-Version-clause-asks g c =
    subst (λ (r : Request). Asks (the_request r) (g.F.Shelf.files c.args.shelf.now) (Version c.in-Version.release)) (sym c.in-Version.is) (version_asked c.in-Version.release (g.F.Shelf.files c.args.shelf.now))

pub returns-in-Version-clause-kind : goal.returns-in-Version-clause-kind
returns-in-Version-clause-kind g c = subst (λ (r : Request). a_text ≡ request_kind (the_request r)) (sym c.in-Version.is) refl
