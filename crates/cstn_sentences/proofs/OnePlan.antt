-- A plan has one answer.
use Rattle.std.proofs.Common.{◌≡◌, ◌≢◌, ℕ, List, refl, ap, sym, ◌∙◌, subst, Result, Ok, Err, ◌⊎◌, inl, inr}
use Rattle.std.specs.declared.alloc.AllocError.{AllocError}
use Rattle.cstn_net.specs.declared.errors.NetError.{NetError}
use Rattle.cstn_net.specs.Drafts.{BuilderParts, IsLowestNetFault}
use Rattle.cstn_lift.specs.declared.errors.LiftError.{LiftError}
use Rattle.cstn_lift.specs.Labelled.{Labelled}
use Rattle.cstn_lift.specs.Faults.{IsLowestLiftFault}
use Rattle.cstn_graphml.specs.Document.{Parts}
use Rattle.cstn_graphml.specs.Networks.{labelled_of, IsFit, IsUnfit, IsMislabelled}
use Rattle.cstn_graphml.proofs.Fits.{one_unfit}
use Rattle.cstn_graphml.proofs.OneAnswer.{fit_is_not_unfit, fit_is_not_mislabelled, unfit_is_not_mislabelled}
use Rattle.cstn_sentences.specs.declared.errors.PlanError.{PlanError}
use Rattle.cstn_sentences.specs.declared.errors.PlanError.TheVariants.{Long, Wrong, Range, Twice, NoName, NoLetter, NoDeadline, Net, Lift, Memory}
use Rattle.cstn_sentences.specs.Refusals.{PlanRefusal, too_long, wrong_word, out_of_range, stands_twice, no_name, no_letter, no_deadline}
use Rattle.cstn_sentences.specs.Planned.{PlanAnswer, IsPlanAnswerTo, RefusesPlan}

-- the error of a refusal by the lines
error_of : PlanRefusal → PlanError
error_of too_long = Long
error_of (wrong_word n word) = Wrong n word
error_of (out_of_range n) = Range n
error_of (stands_twice n text) = Twice n text
error_of (no_name n name) = NoName n name
error_of (no_letter n word) = NoLetter n word
error_of no_deadline = NoDeadline

refuses : (r : PlanRefusal) → RefusesPlan (Err r) (error_of r)
unfolding error_of
refuses too_long = refl
refuses (wrong_word n word) = refl
refuses (out_of_range n) = refl
refuses (stands_twice n text) = refl
refuses (no_name n name) = refl
refuses (no_letter n word) = refl
refuses no_deadline = refl

not_memory : (r : PlanRefusal) (e : AllocError) → error_of r ≢ Memory e
unfolding error_of
not_memory too_long e is = cc
not_memory (wrong_word n word) e is = cc
not_memory (out_of_range n) e is = cc
not_memory (stands_twice n text) e is = cc
not_memory (no_name n name) e is = cc
not_memory (no_letter n word) e is = cc
not_memory no_deadline e is = cc

refusal_is : (r s : PlanRefusal) → ◌≡◌ {A = Result Parts PlanRefusal} (Err r) (Err s) → s ≡ r
refusal_is r s e = cc

parts_are : (p q : Parts) → ◌≡◌ {A = Result Parts PlanRefusal} (Ok p) (Ok q) → q ≡ p
parts_are p q e = cc

-- the answer to a plan that is refused by its lines is this refusal
told_refusal : (r : PlanRefusal) (a : PlanAnswer) → IsPlanAnswerTo (Err r) a → a ≡ Err (error_of r)
unfolding error_of
told_refusal r (Ok x) h = let is = h.told_are in absurd (cc)
told_refusal r (Err Long) h = ap (λ s. Err (error_of s)) (refusal_is r too_long h.0)
told_refusal r (Err (Wrong n word)) h = ap (λ s. Err (error_of s)) (refusal_is r (wrong_word n word) h.0)
told_refusal r (Err (Range n)) h = ap (λ s. Err (error_of s)) (refusal_is r (out_of_range n) h.0)
told_refusal r (Err (Twice n text)) h = ap (λ s. Err (error_of s)) (refusal_is r (stands_twice n text) h.0)
told_refusal r (Err (NoName n name)) h = ap (λ s. Err (error_of s)) (refusal_is r (no_name n name) h.0)
told_refusal r (Err (NoLetter n word)) h = ap (λ s. Err (error_of s)) (refusal_is r (no_letter n word) h.0)
told_refusal r (Err NoDeadline) h = ap (λ s. Err (error_of s)) (refusal_is r no_deadline h.0)
told_refusal r (Err (Net error names)) h = let is = h.0.told_are in absurd (cc)
told_refusal r (Err (Lift error names)) h = let is = h.0.told_are in absurd (cc)
told_refusal r (Err (Memory e)) h = absurd (h.1 e refl)

-- the answer is the labelled network of the parts, the fault of their network, or that of their labels
record Told (parts : Parts) (a : PlanAnswer) : Type 0 where
  pub is : ((IsFit parts × (a ≡ Ok (labelled_of parts, parts.names)))
      ⊎ (((error : NetError) × IsUnfit parts error × (a ≡ Err (Net error parts.names)))
      ⊎ ((error : LiftError) × IsMislabelled parts error × (a ≡ Err (Lift error parts.names)))))

abbrev read_as : Labelled → List (List ℕ) → PlanAnswer
read_as m names = Ok (m, names)

told_parts : (parts : Parts) (a : PlanAnswer) → IsPlanAnswerTo (Ok parts) a → Told parts a
told_parts parts (Ok x) h =
    let same = parts_are parts h.parts h.told_are in
    let labelled : x.0 ≡ labelled_of parts = h.labelled_is ∙ ap labelled_of same in
    let names : x.1 ≡ parts.names = h.names_are ∙ ap (λ (p : Parts). p.names) same in
    record { is = inl (subst IsFit same h.fit, ap (λ (m : Labelled). read_as m x.1) labelled ∙ ap (read_as (labelled_of parts)) names) }
told_parts parts (Err (Net error names)) h =
    let same = parts_are parts h.0.parts h.0.told_are in
    record { is = inr (inl (error, subst (λ p. IsUnfit p error) same h.0.unfit, ap (λ ns. Err (Net error ns)) (h.0.names_are ∙ ap (λ (p : Parts). p.names) same))) }
told_parts parts (Err (Lift error names)) h =
    let same = parts_are parts h.0.parts h.0.told_are in
    record { is = inr (inr (error, subst (λ p. IsMislabelled p error) same h.0.mislabelled, ap (λ ns. Err (Lift error ns)) (h.0.names_are ∙ ap (λ (p : Parts). p.names) same))) }
told_parts parts (Err Long) h = let is = h.0 in absurd (cc)
told_parts parts (Err (Wrong n word)) h = let is = h.0 in absurd (cc)
told_parts parts (Err (Range n)) h = let is = h.0 in absurd (cc)
told_parts parts (Err (Twice n text)) h = let is = h.0 in absurd (cc)
told_parts parts (Err (NoName n name)) h = let is = h.0 in absurd (cc)
told_parts parts (Err (NoLetter n word)) h = let is = h.0 in absurd (cc)
told_parts parts (Err NoDeadline) h = let is = h.0 in absurd (cc)
told_parts parts (Err (Memory e)) h = absurd (h.1 e refl)

module _ (one_net : (b : BuilderParts) (e f : NetError) → IsLowestNetFault b e → IsLowestNetFault b f → e ≡ f)
    (one_lift : (m : Labelled) (e f : LiftError) → IsLowestLiftFault m e → IsLowestLiftFault m f → e ≡ f) where
  same_answer : (parts : Parts) (a b : PlanAnswer) → Told parts a → Told parts b → a ≡ b
  same_answer parts a b one other = elim one.is [
    | inl fit ↦ elim other.is [
      | inl again ↦ fit.1 ∙ sym again.1
      | inr (inl unfit) ↦ absurd (fit_is_not_unfit parts unfit.0 fit.0 unfit.1)
      | inr (inr wrong) ↦ absurd (fit_is_not_mislabelled parts wrong.0 fit.0 wrong.1)
    ]
    | inr (inl unfit) ↦ elim other.is [
      | inl fit ↦ absurd (fit_is_not_unfit parts unfit.0 fit.0 unfit.1)
      | inr (inl again) ↦ unfit.2 ∙ ap (λ e. Err (Net e parts.names)) (one_unfit one_net parts unfit.0 again.0 unfit.1 again.1) ∙ sym again.2
      | inr (inr wrong) ↦ absurd (unfit_is_not_mislabelled parts unfit.0 wrong.0 unfit.1 wrong.1)
    ]
    | inr (inr wrong) ↦ elim other.is [
      | inl fit ↦ absurd (fit_is_not_mislabelled parts wrong.0 fit.0 wrong.1)
      | inr (inl unfit) ↦ absurd (unfit_is_not_mislabelled parts unfit.0 wrong.0 unfit.1 wrong.1)
      | inr (inr again) ↦ wrong.2 ∙ ap (λ e. Err (Lift e parts.names)) (one_lift (labelled_of parts) wrong.0 again.0 wrong.1.fault again.1.fault) ∙ sym again.2
    ]
  ]

  pub one_answer : (told : Result Parts PlanRefusal) (a b : PlanAnswer) → IsPlanAnswerTo told a → IsPlanAnswerTo told b → a ≡ b
  one_answer (Ok parts) a b one other = same_answer parts a b (told_parts parts a one) (told_parts parts b other)
  one_answer (Err r) a b one other = told_refusal r a one ∙ sym (told_refusal r b other)

-- a plan that is refused by its lines has an answer, and so has one whose parts make a labelled network where there is
-- no fault
pub some_answer : (told : Result Parts PlanRefusal) →
    ((parts : Parts) → told ≡ Ok parts → ((e : NetError) → IsUnfit parts e → ⊥) → ((e : LiftError) → IsMislabelled parts e → ⊥) → IsFit parts) →
    ((a : PlanAnswer) → IsPlanAnswerTo told a → ⊥) → ⊥
some_answer (Err r) fits none = none (Err (error_of r)) (refuses r, not_memory r)
some_answer (Ok parts) fits none =
    let fit : IsFit parts =
    fits parts refl (λ e unfit. none (Err (Net e parts.names)) (record { parts = parts; told_are = refl; unfit = unfit; names_are = refl }, λ x is. cc))
    (λ e wrong. none (Err (Lift e parts.names)) (record { parts = parts; told_are = refl; mislabelled = wrong; names_are = refl }, λ x is. cc)) in
    none (Ok (labelled_of parts, parts.names)) (record { parts = parts; told_are = refl; fit = fit; labelled_is = refl; names_are = refl })
