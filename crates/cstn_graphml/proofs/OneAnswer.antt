-- A document has one answer.
use Rattle.std.proofs.Common.{◌≡◌, ◌≢◌, ℕ, List, refl, ap, sym, ◌∙◌, subst, Result, Ok, Err, ◌⊎◌, inl, inr}
use Rattle.std.specs.declared.alloc.AllocError.{AllocError}
use Rattle.cstn_net.specs.declared.errors.NetError.{NetError}
use Rattle.cstn_net.specs.Drafts.{BuilderParts, IsLowestNetFault}
use Rattle.cstn_lift.specs.declared.errors.LiftError.{LiftError}
use Rattle.cstn_lift.specs.Labelled.{Labelled}
use Rattle.cstn_lift.specs.Faults.{IsLowestLiftFault}
use Rattle.cstn_element.specs.declared.errors.DocError.{DocError}
use Rattle.cstn_element.specs.declared.errors.DocError.TheVariants.{NotUtf8, Shape, NameTwice, UnknownNode, Value, LabelText, Contingent, EdgeType, NoDeadline, Net, Lift, Memory}
use Rattle.cstn_element.specs.Results.{Refusal}
use Rattle.cstn_element.specs.Results.Refusal.{not_utf8, shape, name_twice, unknown_node, bad_value, label_text, contingent, edge_type, no_deadline}
use Rattle.cstn_graphml.specs.Document.{Parts}
use Rattle.cstn_graphml.specs.Networks.{labelled_of, IsFit, IsUnfit, IsMislabelled}
use Rattle.cstn_graphml.specs.Answers.{DocumentAnswer, IsAnswerTo, RefusesDocument}
use Rattle.cstn_graphml.proofs.Fits.{fits, one_unfit}

-- the error of a refusal by the grammar
error_of : Refusal → DocError
error_of (not_utf8 at) = NotUtf8 at
error_of (shape at) = Shape at
error_of (name_twice at) = NameTwice at
error_of (unknown_node at) = UnknownNode at
error_of (bad_value at) = Value at
error_of (label_text at) = LabelText at
error_of (contingent at) = Contingent at
error_of (edge_type at) = EdgeType at
error_of no_deadline = NoDeadline

refuses : (r : Refusal) → RefusesDocument (Err r) (error_of r)
unfolding error_of
refuses (not_utf8 at) = refl
refuses (shape at) = refl
refuses (name_twice at) = refl
refuses (unknown_node at) = refl
refuses (bad_value at) = refl
refuses (label_text at) = refl
refuses (contingent at) = refl
refuses (edge_type at) = refl
refuses no_deadline = refl

not_memory : (r : Refusal) (e : AllocError) → error_of r ≢ Memory e
unfolding error_of
not_memory (not_utf8 at) e is = cc
not_memory (shape at) e is = cc
not_memory (name_twice at) e is = cc
not_memory (unknown_node at) e is = cc
not_memory (bad_value at) e is = cc
not_memory (label_text at) e is = cc
not_memory (contingent at) e is = cc
not_memory (edge_type at) e is = cc
not_memory no_deadline e is = cc

refusal_is : (r s : Refusal) → ◌≡◌ {A = Result Parts Refusal} (Err r) (Err s) → s ≡ r
refusal_is r s e = cc

parts_are : (p q : Parts) → ◌≡◌ {A = Result Parts Refusal} (Ok p) (Ok q) → q ≡ p
parts_are p q e = cc

-- the answer to a document that the grammar refuses is this refusal
told_refusal : (r : Refusal) (a : DocumentAnswer) → IsAnswerTo (Err r) a → a ≡ Err (error_of r)
unfolding error_of
told_refusal r (Ok x) h = let is = h.told_are in absurd (cc)
told_refusal r (Err (NotUtf8 at)) h = ap (λ s. Err (error_of s)) (refusal_is r (not_utf8 at) h.0)
told_refusal r (Err (Shape at)) h = ap (λ s. Err (error_of s)) (refusal_is r (shape at) h.0)
told_refusal r (Err (NameTwice at)) h = ap (λ s. Err (error_of s)) (refusal_is r (name_twice at) h.0)
told_refusal r (Err (UnknownNode at)) h = ap (λ s. Err (error_of s)) (refusal_is r (unknown_node at) h.0)
told_refusal r (Err (Value at)) h = ap (λ s. Err (error_of s)) (refusal_is r (bad_value at) h.0)
told_refusal r (Err (LabelText at)) h = ap (λ s. Err (error_of s)) (refusal_is r (label_text at) h.0)
told_refusal r (Err (Contingent at)) h = ap (λ s. Err (error_of s)) (refusal_is r (contingent at) h.0)
told_refusal r (Err (EdgeType at)) h = ap (λ s. Err (error_of s)) (refusal_is r (edge_type at) h.0)
told_refusal r (Err NoDeadline) h = ap (λ s. Err (error_of s)) (refusal_is r no_deadline h.0)
told_refusal r (Err (Net error names)) h = let is = h.0.told_are in absurd (cc)
told_refusal r (Err (Lift error names)) h = let is = h.0.told_are in absurd (cc)
told_refusal r (Err (Memory e)) h = absurd (h.1 e refl)

-- the answer is the labelled network of the parts, the fault of their network, or that of their labels
record Told (parts : Parts) (a : DocumentAnswer) : Type 0 where
  pub is : ((IsFit parts × (a ≡ Ok (labelled_of parts, parts.names)))
      ⊎ (((error : NetError) × IsUnfit parts error × (a ≡ Err (Net error parts.names)))
      ⊎ ((error : LiftError) × IsMislabelled parts error × (a ≡ Err (Lift error parts.names)))))

abbrev read_as : Labelled → List (List ℕ) → DocumentAnswer
read_as m names = Ok (m, names)

told_parts : (parts : Parts) (a : DocumentAnswer) → IsAnswerTo (Ok parts) a → Told parts a
told_parts parts (Ok x) h =
    let same = parts_are parts h.parts h.told_are in
    let labelled : x.0 ≡ labelled_of parts = h.labelled_is ∙ ap labelled_of same in
    let names : x.1 ≡ parts.names = h.names_are ∙ ap (λ (p : Parts). p.names) same in
    record { is = inl (subst IsFit same h.fit, ap (λ (m : Labelled). read_as m x.1) labelled ∙ ap (read_as (labelled_of parts)) names) }
told_parts parts (Err (Net error names)) h =
    let same = parts_are parts h.0.parts h.0.told_are in
    record { is = inr (inl (error, subst (λ p. IsUnfit p error) same h.0.unfit, ap (λ ns. Err (Net error ns)) (h.0.names_are ∙ ap (λ (p : Parts). p.names) same))) }
told_parts parts (Err (Lift error names)) h =
    let same = parts_are parts h.0.parts h.0.told_are in
    record { is = inr (inr (error, subst (λ p. IsMislabelled p error) same h.0.mislabelled, ap (λ ns. Err (Lift error ns)) (h.0.names_are ∙ ap (λ (p : Parts). p.names) same))) }
told_parts parts (Err (NotUtf8 at)) h = let is = h.0 in absurd (cc)
told_parts parts (Err (Shape at)) h = let is = h.0 in absurd (cc)
told_parts parts (Err (NameTwice at)) h = let is = h.0 in absurd (cc)
told_parts parts (Err (UnknownNode at)) h = let is = h.0 in absurd (cc)
told_parts parts (Err (Value at)) h = let is = h.0 in absurd (cc)
told_parts parts (Err (LabelText at)) h = let is = h.0 in absurd (cc)
told_parts parts (Err (Contingent at)) h = let is = h.0 in absurd (cc)
told_parts parts (Err (EdgeType at)) h = let is = h.0 in absurd (cc)
told_parts parts (Err NoDeadline) h = let is = h.0 in absurd (cc)
told_parts parts (Err (Memory e)) h = absurd (h.1 e refl)

-- parts that make a labelled network have no fault of a network, nor of labels
pub fit_is_not_unfit : (parts : Parts) (error : NetError) → IsFit parts → IsUnfit parts error → ⊥
fit_is_not_unfit parts error fit unfit = fits parts error fit.labelled.base unfit

pub fit_is_not_mislabelled : (parts : Parts) (error : LiftError) → IsFit parts → IsMislabelled parts error → ⊥
fit_is_not_mislabelled parts error fit wrong = fit.faultless error wrong.fault.has

pub unfit_is_not_mislabelled : (parts : Parts) (error : NetError) (fault : LiftError) → IsUnfit parts error → IsMislabelled parts fault → ⊥
unfit_is_not_mislabelled parts error fault unfit wrong = fits parts error wrong.well_formed unfit

module _ (one_net : (b : BuilderParts) (e f : NetError) → IsLowestNetFault b e → IsLowestNetFault b f → e ≡ f)
    (one_lift : (m : Labelled) (e f : LiftError) → IsLowestLiftFault m e → IsLowestLiftFault m f → e ≡ f) where
  same_answer : (parts : Parts) (a b : DocumentAnswer) → Told parts a → Told parts b → a ≡ b
  same_answer parts a b one other = elim one.is [
    | inl fit ↦ elim other.is [
      | inl again ↦ fit.1 ∙ sym again.1
      | inr (inl unfit) ↦ absurd (fit_is_not_unfit parts unfit.0 fit.0 unfit.1)
      | inr (inr wrong) ↦ absurd (fit_is_not_mislabelled parts wrong.0 fit.0 wrong.1)
    ]
    | inr (inl unfit) ↦ elim other.is [
      | inl fit ↦ absurd (fit_is_not_unfit parts unfit.0 fit.0 unfit.1)
      | inr (inl again) ↦ unfit.2 ∙ ap (λ e. Err (Net e parts.names)) (one_unfit one_net parts unfit.0 again.0 unfit.1 again.1) ∙ sym again.2
      | inr (inr wrong) ↦ absurd (unfit_is_not_mislabelled parts unfit.0 wrong.0 unfit.1 wrong.1)
    ]
    | inr (inr wrong) ↦ elim other.is [
      | inl fit ↦ absurd (fit_is_not_mislabelled parts wrong.0 fit.0 wrong.1)
      | inr (inl unfit) ↦ absurd (unfit_is_not_mislabelled parts unfit.0 wrong.0 unfit.1 wrong.1)
      | inr (inr again) ↦ wrong.2 ∙ ap (λ e. Err (Lift e parts.names)) (one_lift (labelled_of parts) wrong.0 again.0 wrong.1.fault again.1.fault) ∙ sym again.2
    ]
  ]

  pub one_answer : (told : Result Parts Refusal) (a b : DocumentAnswer) → IsAnswerTo told a → IsAnswerTo told b → a ≡ b
  one_answer (Ok parts) a b one other = same_answer parts a b (told_parts parts a one) (told_parts parts b other)
  one_answer (Err r) a b one other = told_refusal r a one ∙ sym (told_refusal r b other)

-- a document that is refused before its network has an answer, and so has one whose parts make a labelled network where there is
-- no fault
pub some_answer : (told : Result Parts Refusal) →
    ((parts : Parts) → told ≡ Ok parts → ((e : NetError) → IsUnfit parts e → ⊥) → ((e : LiftError) → IsMislabelled parts e → ⊥) → IsFit parts) →
    ((a : DocumentAnswer) → IsAnswerTo told a → ⊥) → ⊥
some_answer (Err r) fits none = none (Err (error_of r)) (refuses r, not_memory r)
some_answer (Ok parts) fits none =
    let fit : IsFit parts =
    fits parts refl (λ e unfit. none (Err (Net e parts.names)) (record { parts = parts; told_are = refl; unfit = unfit; names_are = refl }, λ x is. cc))
    (λ e wrong. none (Err (Lift e parts.names)) (record { parts = parts; told_are = refl; mislabelled = wrong; names_are = refl }, λ x is. cc)) in
    none (Ok (labelled_of parts, parts.names)) (record { parts = parts; told_are = refl; fit = fit; labelled_is = refl; names_are = refl })
