use Rattle.std.proofs.Common.{arith, sym, subst, map}
use Rattle.cstn_label.specs.Read.{the_bound}
use Rattle.cstn_closed.proofs.MarkingLemmas.{AreMarkings, no_markings, markings_more, all_markings}
use Rattle.cstn_closed.proofs.marks.Marking.of.Goals as goal

pub loop-index-init : goal.loop-index-init
loop-index-init c = record {
  upto = omega arith;
  lists = subst (AreMarkings 0 (map the_bound c.args.bounds.now)) (sym c.in_ok-lists.ensures.items) (no_markings (map the_bound c.args.bounds.now));
}

pub loop-index-preserved : goal.loop-index-preserved
loop-index-preserved c = record {
  upto = omega (arith, c.loop-index-test.true);
  lists = markings_more c.loop-index.lists.items _ c.loop-index.index c.in_ok-places.places c.loop-index.invariant.lists c.in_ok-places.ensures.places c.in_ok-push.ensures.items;
}

pub returns : goal.returns
returns c = record {
  lists = all_markings c.loop-index.lists.items c.loop-index.index c.loop-index.invariant.lists (omega (arith, c.loop-index-test.false, c.loop-index.invariant.upto));
}
