use Rattle.std.proofs.Common.{ℕ, ◌<◌, get_or}
use Rattle.cstn_net.specs.Read.{the_network}
use Rattle.cstn_closed.specs.Closed.{the_listed_bounds}
use Rattle.cstn_closed.specs.Instances.{AreChainsCovered, IsSoAt}
use Rattle.cstn_closed.proofs.checks.first_chain.Given as goal

abbrev pub invariant-loop-at : goal.invariant-loop-at
invariant-loop-at l = (n : ℕ) → n < l.at-index →
    IsSoAt (AreChainsCovered (the_network l.net) (the_listed_bounds l.closed)) (the_listed_bounds l.closed) (get_or l.at-items n 0)
