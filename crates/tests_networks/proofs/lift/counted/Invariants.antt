use Rattle.std.proofs.Common.{◌≡◌, length}
use Rattle.tests_networks.proofs.lift.counted.Given as goal

abbrev pub invariant-loop : goal.invariant-loop
invariant-loop g l = record { points : length l.net.points ≡ 3; drafts : length l.net.drafts ≡ l.counter }
