use Rattle.std.proofs.Common.{subst, arith}
use Rattle.cstn_net.specs.Networks.{IsWellFormed}
use Rattle.cstn_net.specs.Read.{NetworkParts, the_network}
use Rattle.cstn_check.specs.declared.verdicts.Verdict.TheVariants.{Yes}
use Rattle.cstn_tight.proofs.BelowLemmas.{steps_before, refuted_before, yes_not_full}
use Rattle.cstn_tight.proofs.tight.refutation_before.Goals as goal

pub new-requires : goal.new-requires
new-requires c =
    let net = the_network c.args.check.now.net in
    let good = subst (λ (n : NetworkParts). IsWellFormed (the_network n)) c.network.ensures.network c.network_is_well_formed.ensures in
    let yes_is = c.requires.yes in
    record {
      steps = steps_before net good c.requires.consistent c.args.place c.args.deadline c.requires.first.0 c.requires.first.1 (omega (arith, c.if-deadline-eq0.false))
          c.requires.few c.kept.result.now.entries c.in_ok-steps.steps.items
          (c.kept.ensures.whole (Yes yes_is.0) yes_is.1 (yes_not_full yes_is.0)) c.in_ok-steps.ensures.part;
    }

pub returns-clause-some : goal.returns-clause-some
returns-clause-some c =
    let net = the_network c.args.check.now.net in
    let good = subst (λ (n : NetworkParts). IsWellFormed (the_network n)) c.network.ensures.network c.network_is_well_formed.ensures in
    let yes_is = c.requires.yes in
    refuted_before net good c.requires.consistent c.args.place c.args.deadline c.requires.first.0 c.requires.first.1 (omega (arith, c.if-deadline-eq0.false))
    c.requires.few c.kept.result.now.entries c.in_ok-steps.steps.items
    (c.kept.ensures.whole (Yes yes_is.0) yes_is.1 (yes_not_full yes_is.0)) c.in_ok-steps.ensures.part
    c.new.result c.new.ensures.load c.new.ensures.steps
