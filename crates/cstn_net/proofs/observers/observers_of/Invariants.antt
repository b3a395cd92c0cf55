use Rattle.std.proofs.Common.{map, take}
use Rattle.cstn_net.specs.Read.{observed}
use Rattle.cstn_net.specs.Observers.{KnowsObservers}
use Rattle.cstn_net.proofs.observers.observers_of.Given as goal

abbrev pub invariant-loop-i : goal.invariant-loop-i
invariant-loop-i l = KnowsObservers (map observed (take l.i l.points)) l.table
