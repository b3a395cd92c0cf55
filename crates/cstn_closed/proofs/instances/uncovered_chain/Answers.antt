use Rattle.std.proofs.Common.{arith}
use Rattle.std.proofs.lemmas.List.{length-map}
use Rattle.cstn_label.specs.Read.{the_bound}
use Rattle.cstn_net.specs.Links.{ends}
use Rattle.cstn_net.specs.Read.{the_network}
use Rattle.cstn_net.specs.declared.constraints.Constraint.{Constraint}
use Rattle.cstn_closed.specs.Closed.{the_listed_bounds}
use Rattle.cstn_closed.specs.Instances.{AreChainsCovered}
use Rattle.cstn_closed.proofs.InstanceLemmas.{IsChainedAt, chained_elsewhere, chained_here, all_chained, first_chained}
use Rattle.cstn_closed.proofs.ListLemmas.{fit_here, image_there, so_here}
use Rattle.cstn_closed.proofs.WalkLemmas.{walk_begins, walk_on}
use Rattle.cstn_closed.proofs.instances.uncovered_chain.Goals as goal

pub first_ending-place-requires : goal.first_ending-place-requires
first_ending-place-requires c = record {
  node = (fit_here (the_network c.args.net.now) c.args.closed.now.bounds c.args.at c.bound-b.result c.requires.fit c.bound-b.ensures.bound).range.node;
}

pub loop-place-init : goal.loop-place-init
loop-place-init c =
    let net = c.args.net.now in
    let bounds = the_listed_bounds c.args.closed.now in
    let b = the_bound c.bound-b.result in
    walk_begins (IsChainedAt net bounds b) (ends net.constraints) b.node (chained_elsewhere net bounds b) c.first_ending-place.result c.first_ending-place.ensures.first

pub is_chain_covered-requires-clause-bound : goal.is_chain_covered-requires-clause-bound
is_chain_covered-requires-clause-bound c =
    (fit_here (the_network c.args.net.now) c.args.closed.now.bounds c.args.at c.bound-b.result c.requires.fit c.bound-b.ensures.bound).range

pub returns-then-not-is_chain_covered-clause-some : goal.returns-then-not-is_chain_covered-clause-some
returns-then-not-is_chain_covered-clause-some c =
    let net = c.args.net.now in
    let bounds = the_listed_bounds c.args.closed.now in
    let b = the_bound c.bound-b.result in
    first_chained net bounds b c.args.at c.loop-place.place c.constraint_at-c.result.now c.network_is_well_formed.ensures c.loop-place.invariant
    (image_there c.args.closed.now.bounds c.args.at c.bound-b.result c.bound-b.ensures.bound) c.constraint_at-c.ensures.at
    (c.is_chain_covered.ensures.uncovered c.if-not-is_chain_covered.true)

pub loop-place-preserved : goal.loop-place-preserved
loop-place-preserved c =
    let net = c.args.net.now in
    let bounds = the_listed_bounds c.args.closed.now in
    let b = the_bound c.bound-b.result in
    walk_on (IsChainedAt net bounds b) (ends net.constraints) b.node (chained_elsewhere net bounds b) c.loop-place.place c.next_ending-place.result c.loop-place.invariant
    (omega (arith, c.loop-place-test.true, c.constraint_count.ensures.count, length-map net.constraints (λ (d : Constraint). d.to.0)))
    (chained_here net bounds b c.loop-place.place c.constraint_at-c.result.now c.constraint_at-c.ensures.at (c.is_chain_covered.ensures.covered c.if-not-is_chain_covered.false))
    c.next_ending-place.ensures.next

pub returns-clause-none : goal.returns-clause-none
returns-clause-none c =
    let net = c.args.net.now in
    let bounds = the_listed_bounds c.args.closed.now in
    so_here (AreChainsCovered (the_network net) bounds) c.args.closed.now.bounds c.args.at c.bound-b.result c.bound-b.ensures.bound
    (all_chained net bounds (the_bound c.bound-b.result) c.loop-place.place c.loop-place.invariant
    (omega (arith, c.loop-place-test.false, c.constraint_count.ensures.count)))
