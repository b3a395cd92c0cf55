use Rattle.std.proofs.Common.{ℕ, ◌≡◌, ◌<◌}
use Rattle.cstn_net.specs.Networks.{count}
use Rattle.cstn_net.specs.Read.{the_network}
use Rattle.cstn_check.specs.Waits.{AreMarkingAt, IsSifted}
use Rattle.cstn_check.proofs.sifting.sift_marking.Given as goal

abbrev pub invariant-loop-x : goal.invariant-loop-x
invariant-loop-x l = record {
  end : l.x-end ≡ count (the_network l.net);
  sifted : IsSifted l.fn.log l.log l.j;
  marking : (y : ℕ) → y < l.x → AreMarkingAt (the_network l.net) l.log l.j y;
}
