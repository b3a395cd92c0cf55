-- What is said of a plan in sentences.
use Rattle.std.proofs.Common.{◌≡◌, ℕ, List, ◌++◌, ap, sym, ◌∙◌, subst, inl, inr}
use Rattle.std.specs.Prelude.{Result, Err, codes}
use Rattle.cstn_lift.specs.Labelled.{Labelled}
use Rattle.cstn_graphml.specs.Document.{Parts}
use Rattle.cstn_request.specs.Refusals.{network_fault, label_fault}
use Rattle.cstn_reply.specs.Texts.{Said, say}
use Rattle.cstn_reply.specs.declared.output.Outcome.TheVariants.{Document}
use Rattle.cstn_sentences.specs.declared.errors.PlanError.{PlanError}
use Rattle.cstn_sentences.specs.declared.errors.PlanError.TheVariants.{Long, Wrong, Range, Twice, NoName, NoLetter, NoDeadline, Net, Lift, Memory}
use Rattle.cstn_sentences.specs.Planned.{IsFitPlan, RefusesPlan}
use Rattle.cstn_sentences.specs.Refusals.{PlanRefusal, too_long, wrong_word, out_of_range, stands_twice, no_name, no_letter, no_deadline}
use Rattle.cstn_top.specs.commands.Plan.{refusal_why, IsPlanTold, planned_of}
use Rattle.cstn_top.specs.commands.Save.{saved}

-- the document of a plan that has a labelled network
pub plan_saved : (parsed : Result Parts PlanRefusal) (m : Labelled) (names : List (List ℕ)) (said : Said) → IsFitPlan parsed m names → said ≡ saved names m → (live : List ℕ) → (planned_of parsed).output live said
plan_saved parsed m names said is same live =
    subst (λ (r : Result Parts PlanRefusal). (planned_of r).output live said) (sym is.told_are)
    (inl (is.fit, same ∙ ap (λ (ns : List (List ℕ)). saved ns m) is.names_are ∙ ap (saved is.parts.names) is.labelled_is))

-- a plan that is refused by its lines
lines_refused : (parsed : Result Parts PlanRefusal) (refusal : PlanRefusal) (why : List ℕ) (said : Said) → parsed ≡ Err refusal → why ≡ refusal_why refusal → said ≡ say Document (codes "plan " ++ why) → (live : List ℕ) → (planned_of parsed).output live said
lines_refused parsed refusal why said is same told_is live =
    subst (λ (r : Result Parts PlanRefusal). (planned_of r).output live said) (sym is) (told_is ∙ ap (λ (w : List ℕ). say Document (codes "plan " ++ w)) same)

-- a plan that is refused
pub plan_refused : (parsed : Result Parts PlanRefusal) (error : PlanError) (said : Said) → RefusesPlan parsed error → IsPlanTold error said → (live : List ℕ) → (planned_of parsed).output live said
plan_refused parsed Long said is h live = lines_refused parsed too_long h.0 said is h.1 h.2 live
plan_refused parsed (Wrong n word) said is h live = lines_refused parsed (wrong_word n word) h.0 said is h.1 h.2 live
plan_refused parsed (Range n) said is h live = lines_refused parsed (out_of_range n) h.0 said is h.1 h.2 live
plan_refused parsed (Twice n text) said is h live = lines_refused parsed (stands_twice n text) h.0 said is h.1 h.2 live
plan_refused parsed (NoName n name) said is h live = lines_refused parsed (no_name n name) h.0 said is h.1 h.2 live
plan_refused parsed (NoLetter n word) said is h live = lines_refused parsed (no_letter n word) h.0 said is h.1 h.2 live
plan_refused parsed NoDeadline said is h live = lines_refused parsed no_deadline h.0 said is h.1 h.2 live
plan_refused parsed (Net error names) said is h live =
    subst (λ (r : Result Parts PlanRefusal). (planned_of r).output live said) (sym is.told_are)
    (inr (inl (error, is.unfit, h.2 ∙ ap (λ (w : List ℕ). say Document (codes "plan " ++ w)) (h.1 ∙ ap (λ (ns : List (List ℕ)). network_fault ns error) is.names_are))))
plan_refused parsed (Lift error names) said is h live =
    subst (λ (r : Result Parts PlanRefusal). (planned_of r).output live said) (sym is.told_are)
    (inr (inr (error, is.mislabelled, h.2 ∙ ap (λ (w : List ℕ). say Document (codes "plan " ++ w)) (h.1 ∙ ap (λ (ns : List (List ℕ)). label_fault ns error) is.names_are))))
plan_refused parsed (Memory e) said is h live = absurd h.1
