-- What outputs tell.
use Rattle.std.proofs.Common.{◌≡◌, ◌<◌, ◌≤◌, ℕ, List, [], length, refl, ap, sym, ◌∙◌, subst, inl, inr, arith}
use Rattle.std.specs.Prelude.{◌⊎◌, Option, None, Some}
use Rattle.cstn_net.specs.Limits.{most_load}
use Rattle.cstn_net.specs.Networks.{Network}
use Rattle.cstn_check.specs.Growth.{load_of, log_of}
use Rattle.cstn_log.specs.Cuts.{last_with_ancestors}
use Rattle.cstn_refute.specs.Texts.{refutation_shown}
use Rattle.cstn_check.specs.declared.verdicts.Verdict.{Verdict}
use Rattle.cstn_check.specs.Decisions.{verdict, unless_yes, said_instead, on_verdict as verdict_said, IsYes, IsNo}
use Rattle.cstn_reply.specs.Texts.{Said}
use Rattle.cstn_lift.specs.Labelled.{Labelled}
use Rattle.cstn_lift.specs.Lowered.{lowered}
use Rattle.cstn_top.specs.Plans.{Plan, says, unless_said}
use Rattle.cstn_top.specs.Answers.{NetworkAnswer, LabelledAnswer, on_labelled, on_document, plan_on_verdict, IsByText}
use Rattle.cstn_text.specs.Limits.{most_text}
use Rattle.cstn_check.specs.declared.verdicts.Verdict.TheVariants.{Yes, No}
use Rattle.cstn_check.specs.declared.verdicts.Verdict.TheVariants.{Full as IsFullVerdict}
use Rattle.cstn_check.proofs.Deciding.{Tells as VerdictTells, verdict_tells}
use Rattle.cstn_reply.specs.declared.output.Outcome.{Outcome}
use Rattle.cstn_reply.specs.declared.output.Outcome.TheVariants.{Good, Bad, Document, Full, Script}
use Rattle.cstn_request.specs.Documents.{HasNetwork, IsRefused}
use Rattle.cstn_top.specs.Verdicts.{IsLabelledYes}
use Rattle.cstn_top.proofs.Documents.{IsOfDocument, document_says, document_then}
use Rattle.cstn_top.proofs.Labels.{IsOfLabelled, on_labels}
use Rattle.cstn_top.proofs.Hosts.{load_told}
use Rattle.cstn_headline.specs.Accepted.{IsNoText}
use Rattle.cstn_headline.specs.Verdicts.{IsLabelledNo}
use Rattle.cstn_headline.specs.Telling.{Telling, OutcomeTells, by_verdict, by_check, good_only, OfLabelled, OfNetwork}
use Rattle.cstn_headline.proofs.Standing.{NoAccepted}

-- ---- documents

-- what is said of a document tells what is told of its labelled network
pub labelled_told : (answer : LabelledAnswer) (bytes : List ℕ) (deadline : Option ℕ) (live : List ℕ) (said : Said) (telling : List (List ℕ) → Labelled → Telling) →
    ((names : List (List ℕ)) (m : Labelled) → IsOfLabelled names m → (answer names m).output live said → OutcomeTells (telling names m) said.outcome) → (on_labelled answer bytes deadline).output live said → OfLabelled bytes deadline said.outcome telling
labelled_told answer bytes deadline live said telling each output =
    on_labels answer bytes deadline live said (λ names m. OutcomeTells (telling names m) said.outcome) (OfLabelled bytes deadline said.outcome telling) (λ is refused. inl (is, refused)) each (λ has. inr has) output

-- likewise where labels are refused
pub network_told : (answer : NetworkAnswer) (bytes : List ℕ) (deadline : Option ℕ) (live : List ℕ) (said : Said) (telling : List (List ℕ) → Network → Telling) →
    ((names : List (List ℕ)) (net : Network) → IsOfDocument names net → (answer names net).output live said → OutcomeTells (telling names net) said.outcome) → (on_document answer bytes deadline).output live said → OfNetwork bytes deadline said.outcome telling
network_told answer bytes deadline live said telling each output = by_said (document_says answer bytes deadline live said output)
  where
    by_said : ((said.outcome ≡ Document) × IsRefused bytes deadline) ⊎ HasNetwork bytes deadline (λ names net. (answer names net).output live said) → OfNetwork bytes deadline said.outcome telling
    by_said (inl is) = inl is
    by_said (inr has) = inr (document_then bytes deadline (λ names net. (answer names net).output live said) (λ names net. OutcomeTells (telling names net) said.outcome) has each)

-- ---- verdicts

-- what an outcome tells, where it is one of three
pub verdict_told : (holds fails long : Type 0) (o : Outcome) → ((o ≡ Good) × holds) ⊎ (((o ≡ Bad) × fails) ⊎ ((o ≡ Full) × long)) → OutcomeTells (by_verdict holds fails long) o
verdict_told holds fails long o (inl is) = subst (OutcomeTells (by_verdict holds fails long)) (sym is.0) is.1
verdict_told holds fails long o (inr (inl is)) = subst (OutcomeTells (by_verdict holds fails long)) (sym is.0) is.1
verdict_told holds fails long o (inr (inr is)) = subst (OutcomeTells (by_verdict holds fails long)) (sym is.0) is.1

pub check_told : (right wrong off : Type 0) (o : Outcome) → ((o ≡ Good) × right) ⊎ (((o ≡ Bad) × wrong) ⊎ ((o ≡ Script) × off)) → OutcomeTells (by_check right wrong off) o
check_told right wrong off o (inl is) = subst (OutcomeTells (by_check right wrong off)) (sym is.0) is.1
check_told right wrong off o (inr (inl is)) = subst (OutcomeTells (by_check right wrong off)) (sym is.0) is.1
check_told right wrong off o (inr (inr is)) = subst (OutcomeTells (by_check right wrong off)) (sym is.0) is.1

pub only_told : (holds : Type 0) (o : Outcome) → o ≡ Good → holds → OutcomeTells (good_only holds) o
only_told holds o is has = subst (OutcomeTells (good_only holds)) (sym is) has

-- what is said of a verdict: it is yes, and this is said; it is no, and a replay accepts the text; or the log is too long
abbrev pub Judged : ℕ → List (List ℕ) → Network → Type 0 → Said → Type 0
Judged cap names net After said =
    (IsYes cap net × After) ⊎ (((said.outcome ≡ Bad) × (IsNo cap net × IsNoText names net said.text)) ⊎ ((said.outcome ≡ Full) × (cap < load_of net)))

pub judged : NoAccepted → (cap : ℕ) (names : List (List ℕ)) (net : Network) (after_yes : Plan) (live : List ℕ) (said : Said) → IsOfDocument names net → cap ≤ most_load →
    (plan_on_verdict cap names net after_yes (verdict cap net)).output live said → Judged cap names net (after_yes.output live said) said
judged no_text cap names net after_yes live said of capped output = by_verdict_of (verdict cap net) refl (verdict_tells cap net of.good) output
  where
    accepted : (load : ℕ) → verdict cap net ≡ No load → IsNo cap net → said.text ≡ refutation_shown names load (last_with_ancestors (log_of net)) → IsNoText names net said.text
    accepted load same no' is =
        subst (IsNoText names net) (sym (is ∙ ap (λ (l : ℕ). refutation_shown names l (last_with_ancestors (log_of net))) (load_told cap load net same)))
        (no_text names net of.good of.are of.named of.ids (omega (arith, no'.1, capped)) no'.0)

    by_verdict_of : (v : Verdict) → verdict cap net ≡ v → VerdictTells cap net v → (plan_on_verdict cap names net after_yes v).output live said → Judged cap names net (after_yes.output live said) said
    by_verdict_of (Yes load) same told is = inl (told, is)
    by_verdict_of (No load) same told is = inr (inl (ap (λ (s : Said). s.outcome) is, (told, accepted load same told (ap (λ (s : Said). s.text) is))))
    by_verdict_of IsFullVerdict same told is = inr (inr (ap (λ (s : Said). s.outcome) is, told))

-- likewise of a labelled network, by the one that it is lowered to
abbrev pub LabelledJudged : ℕ → List (List ℕ) → Labelled → Type 0 → Said → Type 0
LabelledJudged cap names m After said =
    (IsLabelledYes cap m × After) ⊎ (((said.outcome ≡ Bad) × (IsLabelledNo cap m × IsNoText names (lowered m) said.text)) ⊎ ((said.outcome ≡ Full) × (cap < load_of (lowered m))))

pub labelled_judged : NoAccepted → (cap : ℕ) (names : List (List ℕ)) (m : Labelled) (after_yes : Plan) (live : List ℕ) (said : Said) → IsOfLabelled names m → cap ≤ most_load →
    (plan_on_verdict cap names (lowered m) after_yes (verdict cap (lowered m))).output live said → LabelledJudged cap names m (after_yes.output live said) said
labelled_judged no_text cap names m after_yes live said of capped output = by_judged (judged no_text cap names (lowered m) after_yes live said of.plain capped output)
  where
    by_judged : Judged cap names (lowered m) (after_yes.output live said) said → LabelledJudged cap names m (after_yes.output live said) said
    by_judged (inl is) = inl ((of.same.consistent.1 is.0.0, is.0.1), is.1)
    by_judged (inr (inl is)) = inr (inl (is.0, ((λ has. is.1.0.0 (of.same.consistent.0 has), is.1.0.1), is.1.1)))
    by_judged (inr (inr is)) = inr (inr is)

-- what is said of a verdict, where a text is said after yes, is what that plan says
pub as_plan : (o : Option Said) (after_yes said : Said) (live : List ℕ) → said ≡ said_instead o after_yes → (unless_said o (says after_yes)).output live said
as_plan None after_yes said live is = is
as_plan (Some other) after_yes said live is = is

-- what a verdict on a labelled network tells, where more is told after yes
pub after_verdict : NoAccepted → (cap : ℕ) (names : List (List ℕ)) (m : Labelled) (yes_said said : Said) (holds fails : Type 0) → IsOfLabelled names m → cap ≤ most_load →
    (IsLabelledYes cap m → said ≡ yes_said → holds) → (IsLabelledNo cap m → IsNoText names (lowered m) said.text → fails) → yes_said.outcome ≡ Good →
    said ≡ verdict_said cap names (lowered m) yes_said → OutcomeTells (by_verdict holds fails (cap < load_of (lowered m))) said.outcome
after_verdict no_text cap names m yes_said said holds fails of capped on_yes on_no good is =
    verdict_told holds fails (cap < load_of (lowered m)) said.outcome
    (by_judged (labelled_judged no_text cap names m (says yes_said) [] said of capped (as_plan (unless_yes cap names (lowered m) (verdict cap (lowered m))) yes_said said [] is)))
  where
    by_judged : LabelledJudged cap names m (said ≡ yes_said) said → ((said.outcome ≡ Good) × holds) ⊎ (((said.outcome ≡ Bad) × fails) ⊎ ((said.outcome ≡ Full) × (cap < load_of (lowered m))))
    by_judged (inl is) = inl (ap (λ (s : Said). s.outcome) is.1 ∙ good, on_yes is.0 is.1)
    by_judged (inr (inl is)) = inr (inl (is.0, on_no is.1.0 is.1.1))
    by_judged (inr (inr is)) = inr (inr is)

-- ---- texts

-- what is said by a text: that it is too long, or what is said by it
pub text_told : (speaks : Said → Type 0) (text : List ℕ) (said : Said) → IsByText speaks text said → ((said.outcome ≡ Script) × (most_text < length text)) ⊎ ((length text ≤ most_text) × speaks said)
text_told speaks text said (inl long) = inl (ap (λ (s : Said). s.outcome) long.1, long.0)
text_told speaks text said (inr short) = inr short
