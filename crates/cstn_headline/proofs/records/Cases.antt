-- What is proved of `cases`.
use Rattle.std.proofs.Common.{◌≤◌, ◌≡◌, ◌∙◌, ℕ, List, [], ap, sym, subst, inl, inr}
use Rattle.std.specs.Prelude.{Option, None, Some}
use Rattle.cstn_net.specs.Limits.{most_load}
use Rattle.cstn_lift.specs.Labelled.{Labelled}
use Rattle.cstn_lift.specs.Lowered.{lowered}
use Rattle.cstn_check.specs.Growth.{log_of, load_of, live_bounds}
use Rattle.cstn_check.specs.Decisions.{verdict, unless_yes}
use Rattle.cstn_cases.specs.Told.{IsCasesText, IsWideText, AreCasesUnless, AreCasesSaid}
use Rattle.cstn_reply.specs.Texts.{Said}
use Rattle.cstn_reply.specs.declared.output.Outcome.{Outcome}
use Rattle.cstn_reply.specs.declared.output.Outcome.TheVariants.{Good, Wide}
use Rattle.cstn_top.specs.Plans.{Plan, says_such, unless_said}
use Rattle.cstn_top.specs.Verdicts.{IsLabelledYes}
use Rattle.cstn_top.proofs.Labels.{IsOfLabelled}
use Rattle.cstn_headline.specs.Telling.{OutcomeTells}
use Rattle.cstn_headline.specs.commands.Cases.{cases_telling}
use Rattle.cstn_headline.proofs.Standing.{NoAccepted}
use Rattle.cstn_headline.proofs.Telling.{LabelledJudged, labelled_judged}

pub cases_tells : NoAccepted → (cap : ℕ) → cap ≤ most_load → (said : Said) (names : List (List ℕ)) (m : Labelled) → IsOfLabelled names m → AreCasesSaid cap names m said → OutcomeTells (cases_telling cap said.text names m) said.outcome
cases_tells no_text cap capped said names m of output =
    by_judged (labelled_judged no_text cap names m after_yes [] said of capped (by_unless (unless_yes cap names (lowered m) (verdict cap (lowered m))) output))
  where
    after_yes : Plan
    after_yes = says_such (AreCasesUnless names m None)

    as_outcome : (o : Outcome) → said.outcome ≡ o → OutcomeTells (cases_telling cap said.text names m) o → OutcomeTells (cases_telling cap said.text names m) said.outcome
    as_outcome o is told = subst (OutcomeTells (cases_telling cap said.text names m)) (sym is) told

    by_unless : (o : Option Said) → AreCasesUnless names m o said → (unless_said o after_yes).output [] said
    by_unless None is = is
    by_unless (Some other) is = is

    made : IsCasesText names (load_of (lowered m)) (live_bounds (log_of (lowered m))) m said → IsCasesText names (load_of (lowered m)) (live_bounds (log_of (lowered m))) m (record { outcome = Good; text = said.text })
    made is = subst (IsCasesText names (load_of (lowered m)) (live_bounds (log_of (lowered m))) m) (is.said_is ∙ sym (ap (λ (s : Said). record { outcome = Good; text = s.text }) is.said_is)) is

    too_wide : IsWideText (live_bounds (log_of (lowered m))) m said → IsWideText (live_bounds (log_of (lowered m))) m (record { outcome = Wide; text = said.text })
    too_wide is = subst (IsWideText (live_bounds (log_of (lowered m))) m) (is.said_is ∙ sym (ap (λ (s : Said). record { outcome = Wide; text = s.text }) is.said_is)) is

    by_width : IsLabelledYes cap m → AreCasesUnless names m None said → OutcomeTells (cases_telling cap said.text names m) said.outcome
    by_width yes' (inl is) = as_outcome Good (ap (λ (s : Said). s.outcome) is.said_is) (yes', made is)
    by_width yes' (inr is) = as_outcome Wide (ap (λ (s : Said). s.outcome) is.said_is) (yes', too_wide is)

    by_judged : LabelledJudged cap names m (AreCasesUnless names m None said) said → OutcomeTells (cases_telling cap said.text names m) said.outcome
    by_judged (inl is) = by_width is.0 is.1
    by_judged (inr (inl is)) = as_outcome _ is.0 is.1
    by_judged (inr (inr is)) = as_outcome _ is.0 is.1
