use Rattle.std.proofs.Common.{◌<◌, ap, sym, subst, ◌∙◌}
use Rattle.cstn_net.specs.Networks.{Network, IsWellFormed, count}
use Rattle.cstn_net.specs.Read.{the_network}
use Rattle.std.specs.List.{All}
use Rattle.cstn_log.specs.Cuts.{last_with_ancestors}
use Rattle.cstn_check.specs.Checks.{CheckParts}
use Rattle.cstn_check.specs.Decisions.{verdict}
use Rattle.cstn_check.specs.Growth.{log_of, live_bounds, load_of}
use Rattle.cstn_check.specs.declared.verdicts.Verdict.TheVariants.{No}
use Rattle.cstn_follow.proofs.Said.{run_says}
use Rattle.cstn_follow.proofs.findings.finding_on.Goals as goal

pub returns-in-Yes : goal.returns-in-Yes
returns-in-Yes c =
    let start = c.in_ok-check.ensures.start in
    let good = subst (λ (s : CheckParts). IsWellFormed (the_network s.net)) (sym start) c.requires in
    let said = run_says c.in_ok-check.check c.run.result good c.run.ensures.full c.run.ensures.no c.run.ensures.yes in
    let net = ap (λ (s : CheckParts). the_network s.net) c.run.ensures.answered ∙ ap (λ (s : CheckParts). the_network s.net) start in (
      ap (λ (s : CheckParts). verdict s.cap (the_network s.net)) (sym start) ∙ sym said ∙ c.in-Yes.is,
      ap the_network c.into_plan.ensures.network ∙ net,
      c.into_plan.ensures.live ∙ ap (λ (n : Network). live_bounds (log_of n)) net,
    )

pub returns-in_ok-refutation-in-No : goal.returns-in_ok-refutation-in-No
returns-in_ok-refutation-in-No c =
    let start = c.in_ok-check.ensures.start in
    let good = subst (λ (s : CheckParts). IsWellFormed (the_network s.net)) (sym start) c.requires in
    let said = run_says c.in_ok-check.check c.run.result good c.run.ensures.full c.run.ensures.no c.run.ensures.yes in
    let net = ap (λ (s : CheckParts). the_network s.net) c.run.ensures.answered ∙ ap (λ (s : CheckParts). the_network s.net) start in
    let refutation = c.in_ok-refutation-in-No in
    let load = (c.run.ensures.no c.in-No.load).0 c.in-No.is in (
      ap (λ (s : CheckParts). verdict s.cap (the_network s.net)) (sym start) ∙ sym said ∙ c.in-No.is
          ∙ ap No (load.0 ∙ ap (λ (s : CheckParts). load_of (the_network s.net)) start
          ∙ sym (refutation.ensures.load ∙ ap load_of net)),
      refutation.ensures.part ∙ ap (λ (n : Network). last_with_ancestors (log_of n)) net,
      subst (λ (n : Network). All (λ e. e.bound.node.0 < count n) refutation.refutation.steps) net refutation.ensures.named,
    )
