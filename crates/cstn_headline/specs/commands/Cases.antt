-- What `cases` tells.
use Rattle.std.specs.Prelude.{◌<◌, ℕ, List}
use Rattle.cstn_lift.specs.Labelled.{Labelled}
use Rattle.cstn_lift.specs.Lowered.{lowered}
use Rattle.cstn_check.specs.Growth.{log_of, load_of, live_bounds}
use Rattle.cstn_cases.specs.Told.{IsCasesText, IsWideText}
use Rattle.cstn_reply.specs.declared.output.Outcome.TheVariants.{Good, Wide}
use Rattle.cstn_top.specs.Verdicts.{IsLabelledYes}
use Rattle.cstn_headline.specs.Accepted.{IsNoText}
use Rattle.cstn_headline.specs.Telling.{Telling}
use Rattle.cstn_headline.specs.Verdicts.{IsLabelledNo}

-- the network has a strategy, and the tree of the one of least moments is told, or how many propositions are observed, where it has
-- more than 65,536 branches; or it has none, and a replay accepts the text; or the log of the network that it is lowered to has
-- more than `cap` entries
abbrev pub cases_telling : ℕ → List ℕ → List (List ℕ) → Labelled → Telling
cases_telling cap text names m = record {
  good = IsLabelledYes cap m × IsCasesText names (load_of (lowered m)) (live_bounds (log_of (lowered m))) m (record { outcome = Good; text = text });
  bad = IsLabelledNo cap m × IsNoText names (lowered m) text;
  full = cap < load_of (lowered m);
  unfinished = ⊥;
  script = ⊥;
  wide = IsLabelledYes cap m × IsWideText (live_bounds (log_of (lowered m))) m (record { outcome = Wide; text = text });
}
