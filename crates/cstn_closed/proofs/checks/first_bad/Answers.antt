use Rattle.std.proofs.Common.{arith}
use Rattle.std.proofs.lemmas.Bool.{both_ways}
use Rattle.std.proofs.lemmas.List.{length-map}
use Rattle.cstn_label.specs.Read.{the_bound}
use Rattle.cstn_net.specs.Read.{the_network}
use Rattle.cstn_closed.specs.Closed.{the_listed_bounds}
use Rattle.cstn_closed.specs.Faults.{IsFitBound}
use Rattle.cstn_closed.proofs.FaultLemmas.{bad_first}
use Rattle.cstn_closed.proofs.ListLemmas.{image_there, so_here, so_more, so_all}
use Rattle.cstn_closed.proofs.checks.first_bad.Goals as goal

pub returns-then-not-is_fit-clause-some : goal.returns-then-not-is_fit-clause-some
returns-then-not-is_fit-clause-some c =
    bad_first (the_network c.args.net.now) (the_listed_bounds c.args.closed.now) c.loop-at.at (the_bound c.bound.result) c.loop-at.invariant.before
    (image_there c.args.closed.now.bounds c.loop-at.at c.bound.result c.bound.ensures.bound)
    (λ fit. both_ways _ c.if-not-is_fit.true (c.is_fit.ensures.fit.1 fit))

pub loop-at-preserved : goal.loop-at-preserved
loop-at-preserved c = record {
  end = c.count-at-end.ensures.count;
  before = so_more (IsFitBound (the_network c.args.net.now)) (the_listed_bounds c.args.closed.now) c.loop-at.at c.loop-at.invariant.before
      (so_here (IsFitBound (the_network c.args.net.now)) c.args.closed.now.bounds c.loop-at.at c.bound.result c.bound.ensures.bound
      (c.is_fit.ensures.fit.0 c.if-not-is_fit.false));
}

pub returns-clause-none : goal.returns-clause-none
returns-clause-none c =
    so_all (IsFitBound (the_network c.args.net.now)) (the_listed_bounds c.args.closed.now) c.loop-at.at
    (omega (arith, c.loop-at-test.false, c.count-at-end.ensures.count, length-map c.args.closed.now.bounds the_bound)) c.loop-at.invariant.before
