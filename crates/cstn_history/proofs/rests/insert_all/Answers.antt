use Rattle.cstn_history.proofs.Inserted.{constraint_fits, value_fits, all_below}
use Rattle.cstn_history.proofs.rests.insert_all.Goals as goal

pub insert-requires-clause-above : goal.insert-requires-clause-above
insert-requires-clause-above c = all_below c.args.net.now c.args.more.now c.requires.fit c.loop-c.net c.loop-c.c-index c.c-item.result c.loop-c-test.true c.c-item.is
    c.loop-c.invariant.inserted c.loop-c.invariant.points

pub insert-requires-clause-constraint : goal.insert-requires-clause-constraint
insert-requires-clause-constraint c = constraint_fits c.args.net.now c.args.more.now c.requires.fit c.loop-c.net c.loop-c.c-index c.c-item.result c.loop-c-test.true c.c-item.is
    c.loop-c.invariant.inserted c.loop-c.invariant.points

pub insert-requires-clause-value : goal.insert-requires-clause-value
insert-requires-clause-value c = value_fits c.args.net.now c.args.more.now c.requires.fit c.loop-c.net c.loop-c.c-index c.c-item.result c.loop-c-test.true c.c-item.is
    c.loop-c.invariant.inserted c.loop-c.invariant.points
