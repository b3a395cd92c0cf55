-- What is proved of `check`.
use Rattle.std.proofs.Common.{◌≡◌, ◌≤◌, ℕ, List, refl}
use Rattle.cstn_net.specs.Limits.{most_load}
use Rattle.cstn_lift.specs.Labelled.{Labelled}
use Rattle.cstn_lift.specs.Lowered.{lowered}
use Rattle.cstn_check.specs.Growth.{load_of}
use Rattle.cstn_reply.specs.Texts.{Said, yes_line}
use Rattle.cstn_check.specs.Decisions.{checked}
use Rattle.cstn_reply.specs.declared.output.Outcome.TheVariants.{Good}
use Rattle.cstn_top.proofs.Labels.{IsOfLabelled}
use Rattle.cstn_headline.specs.Telling.{OutcomeTells}
use Rattle.cstn_headline.specs.commands.Check.{check_telling}
use Rattle.cstn_headline.proofs.Standing.{NoAccepted}
use Rattle.cstn_headline.proofs.Telling.{after_verdict}

pub check_tells : NoAccepted → (cap : ℕ) → cap ≤ most_load → (said : Said) (names : List (List ℕ)) (m : Labelled) → IsOfLabelled names m → said ≡ checked cap names (lowered m) → OutcomeTells (check_telling cap said.text names m) said.outcome
check_tells no_text cap capped said names m of output =
    after_verdict no_text cap names m (record { outcome = Good; text = yes_line (load_of (lowered m)) }) said _ _ of capped (λ yes' is. yes') (λ no' text. (no', text)) refl output
