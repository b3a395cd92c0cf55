use Rattle.cstn_minset.proofs.SetLemmas.{lifted}
use Rattle.cstn_minset.proofs.min_set.MinSet.lift.Goals as goal

pub returns-clause-lifted : goal.returns-clause-lifted
returns-clause-lifted c =
    let there = c.holds.ensures.holds.0 c.if-not-holds.false in
    let read = c.bound-b.ensures.bound (c.args.id.birth, there.0) there.1 in
    lifted c.args.self.now c.take_under.new.self c.bound-b.result c.args.id.slot c.args.id.birth c.take_under.result (rw read there.1) c.take_under.ensures.minimal c.take_under.ensures.taken c.take_under.ensures.none
