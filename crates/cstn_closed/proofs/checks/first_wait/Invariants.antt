use Rattle.std.proofs.Common.{ℕ, ◌<◌, get_or}
use Rattle.cstn_net.specs.Read.{the_network}
use Rattle.cstn_closed.specs.Closed.{the_listed_bounds}
use Rattle.cstn_closed.specs.Instances.{AreWaitsCovered, IsSoAt}
use Rattle.cstn_closed.proofs.checks.first_wait.Given as goal

abbrev pub invariant-loop-seen : goal.invariant-loop-seen
invariant-loop-seen l = (n : ℕ) → n < l.seen-index →
    IsSoAt (AreWaitsCovered (the_network l.net) (the_listed_bounds l.closed)) (the_listed_bounds l.closed) (get_or l.seen-items n 0)
