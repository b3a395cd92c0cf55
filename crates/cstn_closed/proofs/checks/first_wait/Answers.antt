use Rattle.std.proofs.Common.{arith}
use Rattle.cstn_net.specs.Read.{the_network}
use Rattle.cstn_closed.specs.Closed.{the_listed_bounds}
use Rattle.cstn_closed.specs.Instances.{AreWaitsCovered}
use Rattle.cstn_closed.proofs.FaultLemmas.{wait_first}
use Rattle.cstn_closed.proofs.FreshLemmas.{fresh_before, fresh_all}
use Rattle.cstn_closed.proofs.RuleLemmas.{waits_under}
use Rattle.cstn_closed.proofs.checks.first_wait.Goals as goal

pub returns-in-Some-clause-some : goal.returns-in-Some-clause-some
returns-in-Some-clause-some c =
    let net = the_network c.args.net.now in
    let bounds = the_listed_bounds c.args.closed.now in
    wait_first net bounds _ c.in-Some.at
    (fresh_before (AreWaitsCovered net bounds) (waits_under net bounds) bounds c.fresh-seen-items.result.now c.fresh-seen-items.ensures.fresh c.loop-seen.seen-index
    c.loop-seen.invariant 0 c.loop-seen-test.true)
    c.in-Some.ensures.some

pub returns-clause-none : goal.returns-clause-none
returns-clause-none c =
    let net = the_network c.args.net.now in
    let bounds = the_listed_bounds c.args.closed.now in
    fresh_all (AreWaitsCovered net bounds) (waits_under net bounds) bounds c.fresh-seen-items.result.now c.fresh-seen-items.ensures.fresh c.loop-seen.seen-index
    c.loop-seen.invariant (omega (arith, c.loop-seen-test.false))
