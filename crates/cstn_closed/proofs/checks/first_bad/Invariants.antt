use Rattle.std.proofs.Common.{◌≡◌, length}
use Rattle.cstn_net.specs.Read.{the_network}
use Rattle.cstn_closed.specs.Closed.{the_listed_bounds}
use Rattle.cstn_closed.specs.Faults.{IsFitBound}
use Rattle.cstn_closed.specs.Instances.{IsSoBefore}
use Rattle.cstn_closed.proofs.checks.first_bad.Given as goal

abbrev pub invariant-loop-at : goal.invariant-loop-at
invariant-loop-at l = record {
  end : l.at-end ≡ length l.closed.bounds;
  before : IsSoBefore (IsFitBound (the_network l.net)) (the_listed_bounds l.closed) l.at;
}
