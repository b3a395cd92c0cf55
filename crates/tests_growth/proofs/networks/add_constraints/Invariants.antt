use Rattle.std.proofs.Common.{◌≡◌, ◌≤◌, length}
use Rattle.tests_growth.proofs.networks.add_constraints.Given as goal

abbrev pub invariant-loop-from : goal.invariant-loop-from
invariant-loop-from g l = record { points : l.count ≤ length l.net.points; drafts : length l.net.drafts ≡ l.from-index }
