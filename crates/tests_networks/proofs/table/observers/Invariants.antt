use Rattle.std.proofs.Common.{◌≡◌, length}
use Rattle.tests_networks.proofs.table.observers.Given as goal

abbrev pub invariant-loop-index : goal.invariant-loop-index
invariant-loop-index g l = length l.net.points ≡ l.index
