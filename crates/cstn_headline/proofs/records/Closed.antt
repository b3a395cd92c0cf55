-- What is proved of `closed`.
use Rattle.std.proofs.Common.{◌≤◌, ◌≡◌, ℕ, List, refl, ap, sym, subst, arith}
use Rattle.cstn_net.specs.Limits.{most_load}
use Rattle.cstn_lift.specs.Labelled.{Labelled}
use Rattle.cstn_lift.specs.Lowered.{lowered}
use Rattle.cstn_reply.specs.Texts.{Said}
use Rattle.cstn_top.specs.commands.Closed.{listed, bounds_said}
use Rattle.cstn_top.specs.Verdicts.{IsLabelledYes}
use Rattle.cstn_top.proofs.Labels.{IsOfLabelled}
use Rattle.cstn_headline.specs.Accepted.{IsYesText}
use Rattle.cstn_headline.specs.Verdicts.{HasListedBounds}
use Rattle.cstn_headline.specs.Telling.{OutcomeTells}
use Rattle.cstn_headline.specs.commands.Closed.{closed_telling}
use Rattle.cstn_headline.proofs.EvidenceLemmas.{listed_well}
use Rattle.cstn_headline.proofs.Standing.{YesAccepted, NoAccepted}
use Rattle.cstn_headline.proofs.Telling.{after_verdict}

pub closed_tells : YesAccepted → NoAccepted → (cap : ℕ) → cap ≤ most_load → (said : Said) (names : List (List ℕ)) (m : Labelled) → IsOfLabelled names m → said ≡ listed cap names (lowered m) → OutcomeTells (closed_telling cap said.text names m) said.outcome
closed_tells yes_text no_text cap capped said names m of output =
    after_verdict no_text cap names m (bounds_said names (lowered m)) said _ _ of capped on_yes (λ no' text. (no', text)) refl output
  where
    on_yes : IsLabelledYes cap m → said ≡ bounds_said names (lowered m) → IsLabelledYes cap m × HasListedBounds (lowered m) × IsYesText names (lowered m) said.text
    on_yes yes' is = (
      yes',
      listed_well (lowered m) of.plain.good (of.same.consistent.0 yes'.0),
      subst (IsYesText names (lowered m)) (sym (ap (λ (s : Said). s.text) is))
          (yes_text names (lowered m) of.plain.good of.plain.are of.plain.named (omega (arith, yes'.1, capped)) (of.same.consistent.0 yes'.0)),
    )
