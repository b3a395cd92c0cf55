-- What is proved of `tight`.
use Rattle.std.proofs.Common.{◌≤◌, ◌≡◌, ℕ, List, refl, ap, sym, subst}
use Rattle.cstn_net.specs.Limits.{most_load}
use Rattle.cstn_lift.specs.Labelled.{Labelled}
use Rattle.cstn_lift.specs.Lowered.{lowered}
use Rattle.cstn_reply.specs.Texts.{Said}
use Rattle.cstn_tight.specs.Deadlines.{least_deadline}
use Rattle.cstn_tight.specs.Texts.{tight_said, tightened}
use Rattle.cstn_top.specs.Verdicts.{IsLabelledYes}
use Rattle.cstn_top.proofs.Labels.{IsOfLabelled}
use Rattle.cstn_headline.specs.Telling.{OutcomeTells}
use Rattle.cstn_headline.specs.commands.Tight.{IsTight, IsTightText, tight_telling}
use Rattle.cstn_headline.proofs.EvidenceLemmas.{tight_well, refuted_well}
use Rattle.cstn_headline.proofs.Standing.{YesAccepted, NoAccepted, tight_stands}
use Rattle.cstn_headline.proofs.Telling.{after_verdict}

pub tight_tells : YesAccepted → NoAccepted → (cap : ℕ) → cap ≤ most_load → (said : Said) (names : List (List ℕ)) (m : Labelled) → IsOfLabelled names m → said ≡ tightened cap names (lowered m) → OutcomeTells (tight_telling cap said.text names m) said.outcome
tight_tells yes_text no_text cap capped said names m of output =
    after_verdict no_text cap names m (tight_said names (lowered m)) said _ _ of capped on_yes
    (λ no' text. (no', refuted_well (lowered m) of.plain.good (λ has. no'.0 (of.same.consistent.1 has)), text)) refl output
  where
    on_yes : IsLabelledYes cap m → said ≡ tight_said names (lowered m) → IsLabelledYes cap m × IsTight (lowered m) (least_deadline (lowered m)) × IsTightText names (lowered m) said.text
    on_yes yes' is = (
      yes',
      tight_well (lowered m) of.plain.good (of.same.consistent.0 yes'.0),
      subst (IsTightText names (lowered m)) (sym (ap (λ (s : Said). s.text) is)) (tight_stands yes_text no_text cap names (lowered m) of.plain capped yes'.1 (of.same.consistent.0 yes'.0)),
    )
