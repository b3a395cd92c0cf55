use Rattle.std.proofs.Common.{◌≤◌, ◌+◌, length}
use Rattle.tests_networks.proofs.guide.many.Given as goal

abbrev pub invariant-loop : goal.invariant-loop
invariant-loop g l = length l.net.points ≤ l.counter + 2
