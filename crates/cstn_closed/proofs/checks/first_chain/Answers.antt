use Rattle.std.proofs.Common.{arith}
use Rattle.cstn_net.specs.Read.{the_network}
use Rattle.cstn_closed.specs.Closed.{the_listed_bounds}
use Rattle.cstn_closed.specs.Instances.{AreChainsCovered}
use Rattle.cstn_closed.proofs.FaultLemmas.{chain_first}
use Rattle.cstn_closed.proofs.FreshLemmas.{fresh_before, fresh_all}
use Rattle.cstn_closed.proofs.RuleLemmas.{chains_under}
use Rattle.cstn_closed.proofs.checks.first_chain.Goals as goal

pub returns-in-Some-clause-some : goal.returns-in-Some-clause-some
returns-in-Some-clause-some c =
    let net = the_network c.args.net.now in
    let bounds = the_listed_bounds c.args.closed.now in
    chain_first net bounds c.in-Some.constraint _
    (fresh_before (AreChainsCovered net bounds) (chains_under net bounds) bounds c.fresh-at-items.result.now c.fresh-at-items.ensures.fresh c.loop-at.at-index
    c.loop-at.invariant 0 c.loop-at-test.true)
    c.in-Some.ensures.some

pub returns-clause-none : goal.returns-clause-none
returns-clause-none c =
    let net = the_network c.args.net.now in
    let bounds = the_listed_bounds c.args.closed.now in
    fresh_all (AreChainsCovered net bounds) (chains_under net bounds) bounds c.fresh-at-items.result.now c.fresh-at-items.ensures.fresh c.loop-at.at-index
    c.loop-at.invariant (omega (arith, c.loop-at-test.false))
