use Rattle.std.proofs.Common.{◌≡◌, length}
use Rattle.tests_growth.proofs.networks.add_points.Given as goal

abbrev pub invariant-loop-observes : goal.invariant-loop-observes
invariant-loop-observes g l = record { points : length l.net.points ≡ l.observes-index; drafts : l.net.drafts ≡ l.fn.net.drafts }
