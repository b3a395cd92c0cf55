use Rattle.std.proofs.Common.{arith}
use Rattle.cstn_label.specs.Read.{the_bound}
use Rattle.cstn_net.specs.Read.{the_network}
use Rattle.cstn_closed.specs.Closed.{the_listed_bounds}
use Rattle.cstn_closed.specs.Instances.{AreWaitsCovered, IsWaitCovered}
use Rattle.cstn_closed.proofs.InstanceLemmas.{none_observed, place_read, first_marked, all_marked}
use Rattle.cstn_closed.proofs.ListLemmas.{fit_here, image_there, so_here, so_next}
use Rattle.cstn_closed.proofs.instances.uncovered_wait.Goals as goal

pub observed-requires : goal.observed-requires
observed-requires c = record {
  node = (fit_here (the_network c.args.net.now) c.args.closed.now.bounds c.args.seen c.bound-first.result c.requires.fit c.bound-first.ensures.bound).range.node;
}

pub returns-in_default-clause-none : goal.returns-in_default-clause-none
returns-in_default-clause-none c =
    let net = the_network c.args.net.now in
    let bounds = the_listed_bounds c.args.closed.now in
    so_here (AreWaitsCovered net bounds) c.args.closed.now.bounds c.args.seen c.bound-first.result c.bound-first.ensures.bound
    (none_observed net bounds (the_bound c.bound-first.result) c.in_default.ensures.none)

pub bound-requires : goal.bound-requires
bound-requires c =
    place_read c.args.closed.now.bounds c.marking-at-items.result.now c.in-Some.p.index c.loop-at.at-index _ c.marking-at-items.ensures.marking c.loop-at-test.true

pub is_wait_covered-requires-clause-seen : goal.is_wait_covered-requires-clause-seen
is_wait_covered-requires-clause-seen c =
    (fit_here (the_network c.args.net.now) c.args.closed.now.bounds c.args.seen c.bound-first.result c.requires.fit c.bound-first.ensures.bound).range

pub is_wait_covered-requires-clause-bound : goal.is_wait_covered-requires-clause-bound
is_wait_covered-requires-clause-bound c =
    (fit_here (the_network c.args.net.now) c.args.closed.now.bounds _ c.bound.result c.requires.fit c.bound.ensures.bound).range

pub returns-then-not-is_wait_covered-clause-some : goal.returns-then-not-is_wait_covered-clause-some
returns-then-not-is_wait_covered-clause-some c =
    let net = the_network c.args.net.now in
    let bounds = the_listed_bounds c.args.closed.now in
    first_marked net bounds c.args.seen c.in-Some.p.index c.loop-at.at-index _ c.marking-at-items.result.now (the_bound c.bound-first.result) (the_bound c.bound.result)
    c.marking-at-items.ensures.marking c.loop-at-test.true c.in-Some.ensures.observed
    (image_there c.args.closed.now.bounds c.args.seen c.bound-first.result c.bound-first.ensures.bound)
    (image_there c.args.closed.now.bounds _ c.bound.result c.bound.ensures.bound)
    c.loop-at.invariant (c.is_wait_covered.ensures.uncovered c.if-not-is_wait_covered.true)

pub loop-at-preserved : goal.loop-at-preserved
loop-at-preserved c =
    let net = the_network c.args.net.now in
    let bounds = the_listed_bounds c.args.closed.now in
    let first = the_bound c.bound-first.result in
    so_next (IsWaitCovered net bounds first) bounds c.marking-at-items.result.now c.loop-at.at-index _ c.loop-at-test.true c.loop-at.invariant
    (so_here (IsWaitCovered net bounds first) c.args.closed.now.bounds _ c.bound.result c.bound.ensures.bound
    (c.is_wait_covered.ensures.covered c.if-not-is_wait_covered.false))

pub returns-clause-none : goal.returns-clause-none
returns-clause-none c =
    let net = the_network c.args.net.now in
    let bounds = the_listed_bounds c.args.closed.now in
    so_here (AreWaitsCovered net bounds) c.args.closed.now.bounds c.args.seen c.bound-first.result c.bound-first.ensures.bound
    (all_marked net bounds c.in-Some.p.index c.loop-at.at-index c.marking-at-items.result.now (the_bound c.bound-first.result) c.marking-at-items.ensures.marking
    (omega (arith, c.loop-at-test.false)) c.in-Some.ensures.observed c.loop-at.invariant)
