-- Waiting falls.
use Rattle.std.proofs.Common.{ℕ, Option, sym, ap, ◌∙◌}
use Rattle.std.specs.Prelude.{cond, ◌==◌, Some}
use Rattle.cstn_label.specs.Labels.{Scenario}
use Rattle.cstn_lift.specs.Labelled.{Labelled}
use Rattle.cstn_lift.specs.WellFormed.{IsLabelled}
use Rattle.cstn_history.specs.Continuations.{Can, CanWait}
use Rattle.cstn_history.specs.Facts.{with_expected}
use Rattle.cstn_history.specs.Histories.{History, IsHistory, AgreesWith, GoesOn}
use Rattle.cstn_history.proofs.Narrows.{narrower}

module _ (m : Labelled) (h later : History) (good : IsLabelled m) (on : GoesOn h later) where
  agrees_later : (s : Scenario) → AgreesWith h s → AgreesWith later s
  agrees_later s agrees p v e = agrees p v (sym (on.told p) ∙ e)

  pub waits_before : IsHistory m h → IsHistory m later → (x t : ℕ) → CanWait m later x t → CanWait m h x t
  waits_before before after x t waits =
      (waits.0, narrower m h later good before after on waits.0 waits.1, λ s agrees executed. waits.2 s (agrees_later s agrees) executed)

  expected_on : (p t : ℕ) → GoesOn (with_expected h t p) (with_expected later t p)
  expected_on p t = record {
    now = on.now;
    kept = on.kept;
    more = on.more;
    ready = on.ready;
    told = on.told;
    expected = λ q. ap (λ (o : Option ℕ). cond (q == p) (Some t) o) (on.expected q);
  }

  pub late_before : (p t : ℕ) → IsHistory m (with_expected h t p) → IsHistory m (with_expected later t p) → Can m (with_expected later t p)
      → Can m (with_expected h t p)
  late_before p t before after can =
      (can.0, narrower m (with_expected h t p) (with_expected later t p) good before after (expected_on p t) can.0 can.1)
