use Rattle.std.proofs.Common.{subst, ◌∙◌, arith}
use Rattle.std.proofs.lemmas.Int.{ints}
use Rattle.cstn_net.specs.Networks.{IsWellFormed}
use Rattle.cstn_net.specs.Read.{NetworkParts, the_network}
use Rattle.cstn_check.specs.declared.verdicts.Verdict.TheVariants.{Yes}
use Rattle.cstn_tight.proofs.BelowLemmas.{yes_not_full}
use Rattle.cstn_tight.proofs.TightLemmas.{load_is, some_entries, range_at, first_read, tight_is}
use Rattle.cstn_tight.proofs.tight.tight_of.Goals as goal

pub first_greatest-place-requires : goal.first_greatest-place-requires
first_greatest-place-requires c =
    let net = the_network c.args.check.net in
    let good = subst (λ (n : NetworkParts). IsWellFormed (the_network n)) c.network.ensures.network c.network_is_well_formed.ensures in
    record { some = some_entries net good c.kept.result.now.entries (c.kept.ensures.whole (Yes c.requires.yes.0) c.requires.yes.1 (yes_not_full c.requires.yes.0)) }

pub ticks-deadline-requires : goal.ticks-deadline-requires
ticks-deadline-requires c =
    let net = the_network c.args.check.net in
    let good = subst (λ (n : NetworkParts). IsWellFormed (the_network n)) c.network.ensures.network c.network_is_well_formed.ensures in
    let range = range_at net good c.kept-2.result.now.entries (c.kept-2.ensures.whole (Yes c.requires.yes.0) c.requires.yes.1 (yes_not_full c.requires.yes.0))
    c.first_greatest-place.result c.entry.result c.entry.ensures.entry in
    record { low = omega (arith, ints, range) }

pub refutation_before-requires-clause-first : goal.refutation_before-requires-clause-first
refutation_before-requires-clause-first c =
    let net = the_network c.args.check.net in
    let good = subst (λ (n : NetworkParts). IsWellFormed (the_network n)) c.network.ensures.network c.network_is_well_formed.ensures in
    first_read net good c.kept-2.result.now.entries (c.kept-2.ensures.whole (Yes c.requires.yes.0) c.requires.yes.1 (yes_not_full c.requires.yes.0))
    c.kept.result.now.entries (c.kept.ensures.whole (Yes c.requires.yes.0) c.requires.yes.1 (yes_not_full c.requires.yes.0))
    c.first_greatest-place.result c.ticks-deadline.result c.entry.result c.first_greatest-place.ensures.first c.entry.ensures.entry c.ticks-deadline.ensures.ticks

pub of-requires-clause-low : goal.of-requires-clause-low
of-requires-clause-low c =
    let net = the_network c.args.check.net in
    let good = subst (λ (n : NetworkParts). IsWellFormed (the_network n)) c.network.ensures.network c.network_is_well_formed.ensures in
    let some = some_entries net good c.kept-3.result.now.entries (c.kept-3.ensures.whole (Yes c.requires.yes.0) c.requires.yes.1 (yes_not_full c.requires.yes.0)) in
    omega (arith, some, c.len-load.ensures.len)

pub returns : goal.returns
returns c =
    let net = the_network c.args.check.net in
    let good = subst (λ (n : NetworkParts). IsWellFormed (the_network n)) c.network.ensures.network c.network_is_well_formed.ensures in
    let first =
    first_read net good c.kept-2.result.now.entries (c.kept-2.ensures.whole (Yes c.requires.yes.0) c.requires.yes.1 (yes_not_full c.requires.yes.0))
    c.kept.result.now.entries (c.kept.ensures.whole (Yes c.requires.yes.0) c.requires.yes.1 (yes_not_full c.requires.yes.0))
    c.first_greatest-place.result c.ticks-deadline.result c.entry.result c.first_greatest-place.ensures.first c.entry.ensures.entry c.ticks-deadline.ensures.ticks in
    record {
      tight = tight_is net good c.requires.consistent c.first_greatest-place.result c.ticks-deadline.result first.0 first.1
          c.closed_lists_are_accepted.ensures.accepted c.len-load.result c.into_plan-plan.result.bounds c.in_ok-closed.closed c.in_ok-refutation.refutation
          (c.len-load.ensures.len ∙ load_is net good c.kept-3.result.now.entries (c.kept-3.ensures.whole (Yes c.requires.yes.0) c.requires.yes.1 (yes_not_full c.requires.yes.0)))
          (omega (arith, c.len-load.ensures.at_most, c.len-load.ensures.largest)) c.into_plan-plan.ensures.live c.in_ok-closed.ensures.of
          c.in_ok-refutation.ensures.none c.in_ok-refutation.ensures.some;
    }
