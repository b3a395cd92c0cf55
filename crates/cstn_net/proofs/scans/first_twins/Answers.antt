use Rattle.std.proofs.Common.{subst, sym}
use Rattle.cstn_net.specs.Drafts.{AreFirstTwins}
use Rattle.cstn_net.specs.Read.{observed}
use Rattle.std.proofs.Common.{map}
use Rattle.cstn_net.proofs.ObserverLemmas.{twins_here, no_twins_here, observed_at}
use Rattle.cstn_net.proofs.scans.first_twins.Goals as goal

pub returns-in-Some : goal.returns-in-Some
returns-in-Some c =
    let observes = map observed c.args.points.now in
    let there = observed_at c.args.points.now c.loop-i.i c.index-points-i.result c.loop-i-test.true c.index-points-i.is in
    let found = c.in-Some.found in
    subst (λ n. AreFirstTwins observes found.0.index found.1.0 n.0) (sym c.in-Some.ensures.1)
    (twins_here observes c.args.table.now c.requires.observers _ _ there found.0.index found.1 c.loop-i.invariant c.in-Some.ensures.0)

pub loop-i-preserved : goal.loop-i-preserved
loop-i-preserved c =
    let there = observed_at c.args.points.now c.loop-i.i c.index-points-i.result c.loop-i-test.true c.index-points-i.is in
    no_twins_here (map observed c.args.points.now) c.args.table.now c.requires.observers (record { 0 = c.loop-i.i }) _ there
    c.in_default.ensures c.loop-i.invariant
