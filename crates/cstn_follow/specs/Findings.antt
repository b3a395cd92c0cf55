-- What a check of what is left found.
use Rattle.std.specs.Prelude.{ℕ, ◌≡◌, ◌<◌}
use Rattle.std.specs.List.{All}
use Rattle.cstn_net.specs.Networks.{Network, count}
use Rattle.cstn_net.specs.Read.{the_network}
use Rattle.cstn_log.specs.Cuts.{last_with_ancestors}
use Rattle.cstn_plan.specs.Plans.{the_bounds}
use Rattle.cstn_refute.specs.Refutations.{the_steps}
use Rattle.cstn_check.specs.Growth.{log_of, live_bounds}
use Rattle.cstn_check.specs.Decisions.{verdict}
use Rattle.cstn_check.specs.declared.verdicts.Verdict.{Verdict}
use Rattle.cstn_check.specs.declared.verdicts.Verdict.TheVariants.{Yes, No, Full}
use Rattle.cstn_follow.specs.declared.findings.Finding.{Finding}
use Rattle.cstn_follow.specs.declared.findings.Finding.TheVariants.{Planned, Refuted, Unknown}

-- the verdict of a finding
abbrev pub verdict_of : Finding → Verdict
verdict_of (Planned load plan) = Yes load
verdict_of (Refuted refutation) = No refutation.load
verdict_of Unknown = Full

-- The finding is the one on this network: a plan of the bounds that the log leaves, or the refutation that ends the log.
abbrev pub IsFindingOn : ℕ → Network → Finding → Type 0
IsFindingOn cap net (Planned load plan) =
    (verdict cap net ≡ Yes load) × (the_network plan.net ≡ net) × (the_bounds plan.bounds ≡ live_bounds (log_of net))
IsFindingOn cap net (Refuted refutation) =
    (verdict cap net ≡ No refutation.load) × (the_steps refutation ≡ last_with_ancestors (log_of net)) × All (λ e. e.bound.node.0 < count net) refutation.steps
IsFindingOn cap net Unknown = verdict cap net ≡ Full
