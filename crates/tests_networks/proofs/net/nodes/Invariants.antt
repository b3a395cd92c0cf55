use Rattle.std.proofs.Common.{◌≡◌, [], length}
use Rattle.tests_networks.proofs.net.nodes.Given as goal

abbrev pub invariant-loop : goal.invariant-loop
invariant-loop g l = record { points : length l.builder.points ≡ l.counter; drafts : l.builder.drafts ≡ [] }
