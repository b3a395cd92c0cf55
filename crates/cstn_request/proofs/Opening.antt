-- What is said of a document that was opened.
use Rattle.std.proofs.Common.{◌≡◌, ◌≢◌, ℕ, zero, suc, ◌+◌, ◌^◌, get_or, ◌≤◌, ◌<◌, List, [], ◌∷◌, length, refl, ap, sym, ◌∙◌, subst, inl, inr, arith}
use Rattle.std.specs.Prelude.{Option, Result, Ok, Err, IfOk, IsErrAnd, slice_index_or, codes}
use Rattle.cstn_net.specs.Limits.{most_constraints}
use Rattle.cstn_io.specs.Contents.{IsFile as IsRead, IsLongFile}
use Rattle.std.specs.List.{All}
use Rattle.std.proofs.lemmas.List.{length-map, get_or-map}
use Rattle.cstn_net.specs.declared.constraints.Constraint.{Constraint as LentConstraint}
use Rattle.cstn_net.specs.Networks.{Network, Constraint, IsWellFormed, count}
use Rattle.cstn_net.specs.Read.{NetworkParts, the_network, the_constraint}
use Rattle.cstn_text.specs.Limits.{most_text}
use Rattle.cstn_element.specs.declared.errors.DocError.{DocError}
use Rattle.cstn_element.specs.declared.errors.DocError.TheVariants.{NotUtf8, Shape, NameTwice, UnknownNode, Value, LabelText, Contingent, EdgeType, NoDeadline, Net, Lift, Memory}
use Rattle.cstn_element.specs.Results.{Refusal}
use Rattle.cstn_element.specs.Results.Refusal.{not_utf8, shape, name_twice, unknown_node, bad_value, label_text, contingent, edge_type, no_deadline}
use Rattle.cstn_graphml.specs.Answers.{IsUnfitDocument, IsMislabelledDocument, RefusesDocument}
use Rattle.cstn_graphml.specs.Document.{Parts, document}
use Rattle.cstn_graphml.specs.DrawnGraph.{DrawnConstraint}
use Rattle.cstn_graphml.specs.Networks.{numbered_drawn, network_of, labelled_of, IsFit}
use Rattle.cstn_label.specs.Labels.{Label, empty}
use Rattle.cstn_label.specs.declared.marks.Mark.{Mark}
use Rattle.cstn_label.specs.declared.marks.Mark.TheVariants.{Absent, Yes, No, Unknown}
use Rattle.cstn_lift.specs.declared.errors.LiftError.{LiftError}
use Rattle.cstn_lift.specs.Labelled.{Labelled, HasNoLabels, label_in}
use Rattle.cstn_lift.specs.WellFormed.{IsLabelled}
use Rattle.cstn_lift.specs.Lowered.{numbered, lowered}
use Rattle.cstn_lift.specs.Read.{LabelledParts, the_labelled}
use Rattle.std.proofs.Math.Path.{fun_ext}
use Rattle.cstn_net.specs.declared.errors.NetError.{NetError}
use Rattle.cstn_request.specs.Limits.{most_document}
use Rattle.cstn_request.specs.Refusals.{refusal_text, fault_text, label_fault_text}
use Rattle.cstn_reply.specs.Texts.{Said, say}
use Rattle.cstn_request.specs.Documents.{AreEmpty, IsRefusalOfParts, IsLabelsTold}
use Rattle.cstn_request.specs.Requests.{AskedFile}
use Rattle.cstn_request.specs.declared.reading.NamedNetwork.{NamedNetwork}
use Rattle.cstn_request.specs.declared.reading.NamedLabelled.{NamedLabelled}
use Rattle.cstn_request.specs.Opened.{IsToldBy, HasFile, HasAskedFile, IsLabelledOf, IsPlainDocument, IsPlainOf, IsDocumentRefusal, IsPlainRefusal, IsTakenOf, TellsLabels, IsLongText, IsLongPlan}
use Rattle.cstn_reply.specs.Read.{the_said}
use Rattle.cstn_reply.specs.declared.output.Said.{Said as SaidText}
use Rattle.cstn_reply.specs.declared.output.Outcome.TheVariants.{Document, Script}
use Rattle.cstn_request.proofs.Contents.{long_content, long_is_there, is_content, is_there}

-- a refusal by the grammar
refused_said : (parsed : Result Parts Refusal) (refusal : Refusal) (said : Said) → parsed ≡ Err refusal → said ≡ say Document (refusal_text refusal) → IsRefusalOfParts parsed said
refused_said parsed refusal said is same = subst (λ (r : Result Parts Refusal). IsRefusalOfParts r said) (sym is) same

-- a refusal of the network
unfit_said : (parsed : Result Parts Refusal) (error : NetError) (names : List (List ℕ)) (said : Said) → IsUnfitDocument parsed error names → said ≡ say Document (fault_text names error) → IsRefusalOfParts parsed said
unfit_said parsed error names said unfit same =
    subst (λ (r : Result Parts Refusal). IsRefusalOfParts r said) (sym unfit.told_are)
    (inl (error, unfit.unfit, same ∙ ap (λ (ns : List (List ℕ)). say Document (fault_text ns error)) unfit.names_are))

-- a refusal of its labels
mislabelled_said : (parsed : Result Parts Refusal) (error : LiftError) (names : List (List ℕ)) (said : Said) → IsMislabelledDocument parsed error names → said ≡ say Document (label_fault_text names error) → IsRefusalOfParts parsed said
mislabelled_said parsed error names said is same =
    subst (λ (r : Result Parts Refusal). IsRefusalOfParts r said) (sym is.told_are)
    (inr (error, is.mislabelled, same ∙ ap (λ (ns : List (List ℕ)). say Document (label_fault_text ns error)) is.names_are))

error_said : (parsed : Result Parts Refusal) (error : DocError) (said : Said) → RefusesDocument parsed error → IsToldBy error said → IsRefusalOfParts parsed said
error_said parsed (NotUtf8 at) said is same = refused_said parsed (not_utf8 at) said is same
error_said parsed (Shape at) said is same = refused_said parsed (shape at) said is same
error_said parsed (NameTwice at) said is same = refused_said parsed (name_twice at) said is same
error_said parsed (UnknownNode at) said is same = refused_said parsed (unknown_node at) said is same
error_said parsed (Value at) said is same = refused_said parsed (bad_value at) said is same
error_said parsed (LabelText at) said is same = refused_said parsed (label_text at) said is same
error_said parsed (Contingent at) said is same = refused_said parsed (contingent at) said is same
error_said parsed (EdgeType at) said is same = refused_said parsed (edge_type at) said is same
error_said parsed NoDeadline said is same = refused_said parsed no_deadline said is same
error_said parsed (Net error names) said is same = unfit_said parsed error names said is same
error_said parsed (Lift error names) said is same = mislabelled_said parsed error names said is same
error_said parsed (Memory e) said is same = absurd same

told_by : (error : DocError) (said : Said) → IsToldBy error said → said.outcome ≡ Document
told_by (NotUtf8 at) said same = ap (λ (s : Said). s.outcome) same
told_by (Shape at) said same = ap (λ (s : Said). s.outcome) same
told_by (NameTwice at) said same = ap (λ (s : Said). s.outcome) same
told_by (UnknownNode at) said same = ap (λ (s : Said). s.outcome) same
told_by (Value at) said same = ap (λ (s : Said). s.outcome) same
told_by (LabelText at) said same = ap (λ (s : Said). s.outcome) same
told_by (Contingent at) said same = ap (λ (s : Said). s.outcome) same
told_by (EdgeType at) said same = ap (λ (s : Said). s.outcome) same
told_by NoDeadline said same = ap (λ (s : Said). s.outcome) same
told_by (Net error names) said same = ap (λ (s : Said). s.outcome) same
told_by (Lift error names) said same = ap (λ (s : Said). s.outcome) same
told_by (Memory e) said same = absurd same

-- a document that is refused
pub refused_is : (bytes : List ℕ) (deadline : Option ℕ) (error : DocError) (said : SaidText) → length bytes ≤ most_document → RefusesDocument (document bytes deadline) error → IsToldBy error (the_said said) → IsDocumentRefusal bytes deadline said
refused_is bytes deadline error said short is same = (inr (short, error_said (document bytes deadline) error (the_said said) is same), told_by error (the_said said) same)

-- a file that is too long for a document
pub long_document : (shelf : Option (List ℕ → Option (List ℕ))) (name : List ℕ) (deadline : Option ℕ) (said : SaidText) → IsLongFile shelf name most_document → the_said said ≡ say Document (codes "document long") → HasFile shelf name (λ bytes. IsDocumentRefusal bytes deadline said)
long_document shelf name deadline said long is =
    let found = long_content shelf name most_document long in
    record { bytes = found.0; content = found.1; there = long_is_there shelf name most_document long; is = (inl (found.2, is), ap (λ (s : Said). s.outcome) is) }

-- a file that is too long for a text
pub long_text : (shelf : Option (List ℕ → Option (List ℕ))) (name : List ℕ) (said : SaidText) → IsLongFile shelf name most_text → the_said said ≡ say Script (codes "script long") → HasFile shelf name (IsLongText said)
long_text shelf name said long is =
    let found = long_content shelf name most_text long in
    record { bytes = found.0; content = found.1; there = long_is_there shelf name most_text long; is = (found.2, is) }

-- a file that is too long for a plan in sentences
pub long_plan : (shelf : Option (List ℕ → Option (List ℕ))) (name : List ℕ) (said : SaidText) → IsLongFile shelf name most_document → the_said said ≡ say Document (codes "plan long") → HasFile shelf name (IsLongPlan said)
long_plan shelf name said long is =
    let found = long_content shelf name most_document long in
    record { bytes = found.0; content = found.1; there = long_is_there shelf name most_document long; is = (found.2, is) }

-- a file that was read
pub whole_file : (shelf : Option (List ℕ → Option (List ℕ))) (name bytes : List ℕ) (holds : List ℕ → Type 0) → IsRead shelf name bytes → holds bytes → HasFile shelf name holds
whole_file shelf name bytes holds read is = record { bytes = bytes; content = is_content shelf name bytes read; there = is_there shelf name bytes read; is = is }

-- what follows of the bytes of a file
pub file_as : (shelf : Option (List ℕ → Option (List ℕ))) (name : List ℕ) (one other : List ℕ → Type 0) → HasFile shelf name one → ((bytes : List ℕ) → one bytes → other bytes) → HasFile shelf name other
file_as shelf name one other file follows = record { bytes = file.bytes; content = file.content; there = file.there; is = follows file.bytes file.is }

-- the ids of a document's constraints are their places
numbered_id : (k : ℕ) (cs : List DrawnConstraint) (i : ℕ) (d : Constraint) → i < length (numbered_drawn k cs) → (get_or (numbered_drawn k cs) i d).id ≡ k + i
numbered_id k [] i d inside = absurd (omega (arith, inside))
numbered_id k (c ∷ cs) zero d inside = omega arith
numbered_id k (c ∷ cs) (suc i) d inside = let later = numbered_id (k + 1) cs i d (omega (arith, inside)) in omega (arith, later)

-- the laws of labelled networks that are needed here
abbrev pub IsNumbered : Type 0
IsNumbered = (m : Labelled) → IsLabelled m → HasNoLabels m → lowered m ≡ record m.base { constraints = numbered 0 m.base.constraints }

abbrev pub IsSameNumbered : Type 0
IsSameNumbered = (k : ℕ) (cs : List Constraint) → ((i : ℕ) (d : Constraint) → i < length cs → (slice_index_or cs i d).id ≡ k + i) → numbered k cs ≡ cs

-- the lowered network of a document without labels is its network
plain_network : IsNumbered → IsSameNumbered → (parts : Parts) → IsLabelled (labelled_of parts) → AreEmpty parts.labels → lowered (labelled_of parts) ≡ network_of parts
plain_network is_numbered same parts good empties =
    is_numbered (labelled_of parts) good (λ x inside. empties x (omega (arith, inside, good.one_each)))
    ∙ ap (λ (cs : List Constraint). record (network_of parts) { constraints = cs }) (same 0 (numbered_drawn 0 parts.constraints) (λ i d inside. numbered_id 0 parts.constraints i d inside))

-- a document with labels
labels_said : (parsed : Result Parts Refusal) (parts : Parts) (said : Said) → parsed ≡ Ok parts → IsFit parts → (AreEmpty parts.labels → ⊥) → said ≡ say Document (codes "document labels") → IsLabelsTold parsed said
labels_said parsed parts said is fit labelled same = subst (λ (r : Result Parts Refusal). IsLabelsTold r said) (sym is) (fit, labelled, same)

-- the ids of a document's constraints are small
document_ids : (parsed : Result Parts Refusal) (net : NetworkParts) (names : List (List ℕ)) → IsPlainDocument parsed net names → IsWellFormed (the_network net) → All (λ (c : LentConstraint). c.id < 2 ^ 31) net.constraints
document_ids parsed net names is good = λ i d inside.
    let few : length (the_network net).constraints ≤ most_constraints = good.few_constraints in
    let long : length (the_network net).constraints ≡ length net.constraints = length-map net.constraints the_constraint in
    let all : (the_network net).constraints ≡ numbered_drawn 0 is.parts.constraints = ap (λ (n : Network). n.constraints) is.network_is in
    let place = numbered_id 0 is.parts.constraints i (the_constraint d) (omega (arith, inside, long, ap length all)) in
    let there = ap (λ (cs : List Constraint). (get_or cs i (the_constraint d)).id) all in
    let same = ap (λ (c : Constraint). c.id) (get_or-map the_constraint net.constraints i d (the_constraint d) inside) in
    omega (arith, inside, few, long, place, there, same)

-- a document whose labelled network was taken as a plain one
pub plain_opens : IsNumbered → IsSameNumbered → (bytes : List ℕ) (deadline : Option ℕ) (l : NamedLabelled) (d : NamedNetwork) → IsLabelledOf bytes deadline l → IsTakenOf l.labelled l.names d → IsPlainOf bytes deadline d
plain_opens is_numbered same_numbered bytes deadline l d opens taken =
    let is = opens.is in
    let empties : AreEmpty is.parts.labels = subst (λ (m : Labelled). AreEmpty m.labels) is.labelled_is taken.empties in
    let parts_are : IsPlainDocument (document bytes deadline) d.network d.names = record {
      parts = is.parts;
      told_are = is.told_are;
      unlabelled = (is.fit, empties);
      network_is = taken.network ∙ ap lowered is.labelled_is ∙ plain_network is_numbered same_numbered is.parts (subst IsLabelled is.labelled_is taken.labelled) empties;
      names_are = taken.same ∙ is.names_are;
    } in
    record { short = opens.short; is = parts_are; well_formed = taken.well_formed; ids = document_ids (document bytes deadline) d.network d.names parts_are taken.well_formed; names = taken.named }

-- a document that has labels where none are taken
pub plain_refused : (bytes : List ℕ) (deadline : Option ℕ) (l : NamedLabelled) (said : SaidText) → IsLabelledOf bytes deadline l → TellsLabels l.labelled said → IsPlainRefusal bytes deadline said
plain_refused bytes deadline l said opens taken =
    let is = opens.is in (
      inr (opens.short, labels_said (document bytes deadline) is.parts (the_said said) is.told_are is.fit (λ empties. taken.0 (subst (λ (m : Labelled). AreEmpty m.labels) (sym is.labelled_is) empties)) taken.1),
      ap (λ (s : Said). s.outcome) taken.1,
    )

-- a document that was taken as a plain one
pub plainly_asked : {E : Type 0} → IsNumbered → IsSameNumbered → (shelf : Option (List ℕ → Option (List ℕ))) (asked : AskedFile) (l : NamedLabelled) (r : Result NamedNetwork E) → HasAskedFile shelf asked (λ bytes deadline. IsLabelledOf bytes deadline l) → IfOk r (IsTakenOf l.labelled l.names) → IfOk r (λ d. HasAskedFile shelf asked (λ bytes deadline. IsPlainOf bytes deadline d))
plainly_asked is_numbered same_numbered shelf asked l (Err e) opened taken = tt
plainly_asked is_numbered same_numbered shelf asked l (Ok d) opened taken = file_as shelf asked.file (λ bytes. IsLabelledOf bytes asked.deadline l) (λ bytes. IsPlainOf bytes asked.deadline d) opened (λ bytes is. plain_opens is_numbered same_numbered bytes asked.deadline l d is taken)

-- a label that can't differ from the empty one is empty
empty_unless : (a : Label) → (a ≢ empty → ⊥) → a ≡ empty
empty_unless a never = fun_ext (λ p. by_mark p (a p) refl)
  where
    other : (p : ℕ) (m : Mark) → a p ≡ m → (m ≡ Absent → ⊥) → ⊥
    other p m is differs = never (λ same. differs (sym is ∙ ap (λ (b : Label). b p) same))

    by_mark : (p : ℕ) (m : Mark) → a p ≡ m → a p ≡ Absent
    by_mark p Absent is = is
    by_mark p Yes is = absurd (other p Yes is (λ e. cc))
    by_mark p No is = absurd (other p No is (λ e. cc))
    by_mark p Unknown is = absurd (other p Unknown is (λ e. cc))

-- the labels are empty where none differs from the empty one
pub empties_from : (l : LabelledParts) → IsLabelled (the_labelled l) → ((x : ℕ) → x < count (the_network l.base) → label_in (the_labelled l).labels x ≢ empty → ⊥) → AreEmpty (the_labelled l).labels
empties_from l good none = λ x inside. empty_unless (label_in (the_labelled l).labels x) (none x (omega (arith, inside, good.one_each)))

-- where a label differs from the empty one, not all labels are empty
pub some_label : (l : LabelledParts) → IsLabelled (the_labelled l) → (x : ℕ) → x < count (the_network l.base) → label_in (the_labelled l).labels x ≢ empty → AreEmpty (the_labelled l).labels → ⊥
some_label l good x inside there empties = there (empties x (omega (arith, inside, good.one_each)))

-- the error that is handed on is the one that came
pub handed_on : {T E : Type 0} (r : Result T E) (e other : E) → IsErrAnd r (λ x. x ≡ e) → r ≡ Err other → e ≡ other
handed_on (Ok x) e other told is = absurd told
handed_on (Err x) e other told is = sym told ∙ (cc)
