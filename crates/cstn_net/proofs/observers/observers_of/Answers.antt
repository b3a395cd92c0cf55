use Rattle.std.proofs.Common.{refl}
use Rattle.cstn_net.proofs.ObserverLemmas.{no_observers, observers_turn}
use Rattle.cstn_net.proofs.observers.observers_of.Goals as goal

pub loop-i-init : goal.loop-i-init
loop-i-init c = no_observers

pub loop-i-preserved : goal.loop-i-preserved
loop-i-preserved c =
    observers_turn c.args.points.now c.loop-i.table _ c.loop-i.i _ _ c.loop-i-test.true refl c.index-points-i.is
    c.type_inv.table c.loop-i.invariant c.note.ensures
