use Rattle.std.proofs.Common.{◌≡◌, length}
use Rattle.tests_networks.proofs.net.constrained.Given as goal

abbrev pub invariant-loop : goal.invariant-loop
invariant-loop g l = record { points : length l.builder.points ≡ 1024; drafts : length l.builder.drafts ≡ l.counter }
