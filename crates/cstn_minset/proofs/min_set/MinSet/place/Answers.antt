use Rattle.std.proofs.Common.{◌<◌, arith, sym, subst}
use Rattle.cstn_minset.specs.Sets.{Places, IsPlaced, IsCoveredInSet, IsCleared}
use Rattle.cstn_minset.proofs.CoverLemmas.{covering_grows, emptied_at}
use Rattle.cstn_minset.proofs.SetLemmas.{placed_count, count_less, clearing_more, clearing_end}
use Rattle.cstn_minset.proofs.min_set.MinSet.place.Goals as goal

pub loop-smaller : goal.loop-smaller
loop-smaller c =
    let out = c.take_under.ensures.taken c.loop-test.true in
    subst (λ (v : Places). placed_count v.table < placed_count c.loop.self.table) (sym out.4) (count_less c.loop.self.table out.0 out.1 out.2)

pub loop-preserved : goal.loop-preserved
loop-preserved c =
    let out = c.take_under.ensures.taken c.loop-test.true in
    clearing_more c.args.b.now c.args.self.now c.loop.self c.take_under.new.self out.0 out.1 c.loop.invariant out.2 out.3 out.4

pub put-requires-clause-uncovered : goal.put-requires-clause-uncovered
put-requires-clause-uncovered c = λ covered.
    let same = (c.take_under.ensures.none c.loop-test.false).0 in
    let there = subst (λ (v : Places). IsPlaced v.table covered.0 covered.1) same covered.2 in
    c.requires.uncovered (covered.0, covered.1, c.loop.invariant.was covered.0 covered.1 there, covered.3)

pub returns-clause-covering_grows : goal.returns-clause-covering_grows
returns-clause-covering_grows c = λ b covered.
    let done = c.take_under.ensures.none c.loop-test.false in
    let cleared = subst (λ (v : Places). IsCleared c.args.b.now c.args.self.now.table v.table) (sym done.0) (clearing_end c.args.b.now c.args.self.now c.loop.self c.loop.invariant done.1) in
    subst (λ (v : Places). IsCoveredInSet v.table b) (sym c.put.ensures)
    (covering_grows c.labels_are_their_marks.ensures.above c.args.self.now.table c.take_under.new.self.table c.args.b.now b c.args.id.slot c.args.id.birth cleared (omega (arith, cleared.size, c.requires.slot))
    (emptied_at c.args.b.now c.args.self.now.table c.take_under.new.self.table c.args.id.slot cleared c.requires.free) covered)
