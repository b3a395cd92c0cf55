-- What is proved of `replay`.
use Rattle.std.proofs.Common.{◌≤◌, ◌<◌, ◌≡◌, ℕ, List, length, ap, inl, inr}
use Rattle.std.specs.Prelude.{◌⊎◌}
use Rattle.cstn_lift.specs.Labelled.{Labelled}
use Rattle.cstn_lift.specs.Lowered.{lowered}
use Rattle.cstn_reply.specs.Texts.{Said}
use Rattle.cstn_top.specs.Answers.{IsByText}
use Rattle.cstn_replay.specs.Texts.{IsReplayOf, IsReplayOfSteps}
use Rattle.cstn_text.specs.Limits.{most_text}
use Rattle.cstn_lift.specs.Strategies.{IsLabelledConsistent}
use Rattle.cstn_headline.proofs.LogTexts.{no_refutation}
use Rattle.cstn_rules.proofs.Derived.{refuted_inconsistent}
use Rattle.cstn_refute.specs.Texts.{RefutationTold as ToldText, tells as tells_steps, wrong as wrong_text, refutation_told as told_by}
use Rattle.cstn_reply.specs.declared.output.Outcome.TheVariants.{Good, Bad, Script}
use Rattle.cstn_top.proofs.Labels.{IsOfLabelled}
use Rattle.cstn_headline.specs.Telling.{OutcomeTells}
use Rattle.cstn_headline.specs.commands.Replay.{IsRefutedBy, IsNoRefutation, IsOffGrammar, replay_telling}
use Rattle.cstn_headline.proofs.Telling.{check_told, text_told}

long_off : (text : List ℕ) (told : ToldText) → most_text < length text → IsOffGrammar text told
long_off text (tells_steps load steps) long = long
long_off text (wrong_text at) long = tt

pub replay_tells : (text : List ℕ) (said : Said) (names : List (List ℕ)) (m : Labelled) → IsOfLabelled names m → IsByText (IsReplayOf names text (lowered m)) text said → OutcomeTells (replay_telling text names m) said.outcome
replay_tells text said names m of output = check_told _ _ _ said.outcome (by_said (text_told (IsReplayOf names text (lowered m)) text said output))
  where
    Cases : ToldText → Type 0
    Cases told = ((said.outcome ≡ Good) × ((length text ≤ most_text) × IsRefutedBy told (lowered m) × (IsLabelledConsistent m → ⊥)))
        ⊎ (((said.outcome ≡ Bad) × ((length text ≤ most_text) × IsNoRefutation told (lowered m))) ⊎ ((said.outcome ≡ Script) × IsOffGrammar text told))

    by_told : (told : ToldText) → length text ≤ most_text → IsReplayOfSteps told (lowered m) said → Cases told
    by_told (tells_steps load steps) short (inl found) =
        inl (ap (λ (s : Said). s.outcome) found.1, (short, found.0, λ has. refuted_inconsistent (lowered m) steps of.plain.good.network found.0 (of.same.consistent.0 has)))
    by_told (tells_steps load steps) short (inr found) = inr (inl (ap (λ (s : Said). s.outcome) found.2, (short, no_refutation (lowered m) steps found.0 found.1)))
    by_told (wrong_text at) short is = inr (inr (ap (λ (s : Said). s.outcome) is, tt))

    by_said : ((said.outcome ≡ Script) × (most_text < length text)) ⊎ ((length text ≤ most_text) × IsReplayOf names text (lowered m) said) → Cases (told_by names text)
    by_said (inl long) = inr (inr (long.0, long_off text (told_by names text) long.1))
    by_said (inr is) = by_told (told_by names text) is.0 is.1
