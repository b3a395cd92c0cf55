use Rattle.std.proofs.Common.{ℕ, ◌<◌, ◌≤◌, ◌-◌}
use Rattle.cstn_net.specs.Read.{the_network}
use Rattle.cstn_check.specs.Waits.{AreSeenOf, IsSifted}
use Rattle.cstn_check.proofs.sifting.sift_seen.Given as goal

abbrev pub invariant-loop-p : goal.invariant-loop-p
invariant-loop-p l = record {
  small : l.index ≤ 52;
  sifted : IsSifted l.fn.log l.log l.j;
  seen : (p : ℕ) → p < l.index → AreSeenOf (the_network l.net) l.log l.j p;
}

abbrev pub decreases-loop-p : goal.decreases-loop-p
decreases-loop-p l = 52 - l.index
