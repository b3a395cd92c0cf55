-- What is proved of `closedcheck`.
use Rattle.std.proofs.Common.{◌≤◌, ◌<◌, ◌≡◌, ℕ, List, length, ap, inl, inr}
use Rattle.std.specs.Prelude.{◌⊎◌}
use Rattle.cstn_lift.specs.Labelled.{Labelled}
use Rattle.cstn_lift.specs.Lowered.{lowered}
use Rattle.cstn_reply.specs.Texts.{Said}
use Rattle.cstn_top.specs.Answers.{IsByText}
use Rattle.cstn_closed.specs.Certificates.{IsCertificateOf, IsCertificateOfBounds}
use Rattle.cstn_text.specs.Limits.{most_text}
use Rattle.cstn_lift.specs.Strategies.{IsLabelledConsistent}
use Rattle.cstn_plan.specs.Asked.{asked as table_of}
use Rattle.cstn_plan.proofs.Strategies.{asked_strategy}
use Rattle.cstn_closed.specs.Texts.{ClosedTold as ToldBounds, tells as tells_bounds, wrong as wrong_bound, closed_told as told_bounds}
use Rattle.cstn_reply.specs.declared.output.Outcome.TheVariants.{Good, Bad, Script}
use Rattle.cstn_top.proofs.Labels.{IsOfLabelled}
use Rattle.cstn_headline.specs.Telling.{OutcomeTells}
use Rattle.cstn_headline.specs.commands.Closedcheck.{AreClosed, AreFaulty, AreNoBounds, closedcheck_telling}
use Rattle.cstn_headline.proofs.Telling.{check_told, text_told}

long_off : (text : List ℕ) (told : ToldBounds) → most_text < length text → AreNoBounds text told
long_off text (tells_bounds load bounds) long = long
long_off text (wrong_bound at) long = tt

pub closedcheck_tells : (text : List ℕ) (said : Said) (names : List (List ℕ)) (m : Labelled) → IsOfLabelled names m → IsByText (IsCertificateOf names text (lowered m)) text said → OutcomeTells (closedcheck_telling text names m) said.outcome
closedcheck_tells text said names m of output = check_told _ _ _ said.outcome (by_said (text_told (IsCertificateOf names text (lowered m)) text said output))
  where
    Cases : ToldBounds → Type 0
    Cases told = ((said.outcome ≡ Good) × ((length text ≤ most_text) × AreClosed told (lowered m) × IsLabelledConsistent m))
        ⊎ (((said.outcome ≡ Bad) × ((length text ≤ most_text) × AreFaulty told (lowered m))) ⊎ ((said.outcome ≡ Script) × AreNoBounds text told))

    by_told : (told : ToldBounds) → length text ≤ most_text → IsCertificateOfBounds names told (lowered m) said → Cases told
    by_told (tells_bounds load bounds) short (inl found) =
        inl (ap (λ (s : Said). s.outcome) found.2, (short, (found.0, found.1), of.same.consistent.1 (table_of (lowered m) bounds, asked_strategy (lowered m) bounds of.plain.good.network found.1)))
    by_told (tells_bounds load bounds) short (inr found) = inr (inl (ap (λ (s : Said). s.outcome) found.2, (short, (found.0, found.1))))
    by_told (wrong_bound at) short is = inr (inr (ap (λ (s : Said). s.outcome) is, tt))

    by_said : ((said.outcome ≡ Script) × (most_text < length text)) ⊎ ((length text ≤ most_text) × IsCertificateOf names text (lowered m) said) → Cases (told_bounds names text)
    by_said (inl long) = inr (inr (long.0, long_off text (told_bounds names text) long.1))
    by_said (inr is) = by_told (told_bounds names text) is.0 is.1
