use Rattle.std.proofs.Common.{◌≡◌}
use Rattle.cstn_net.specs.Networks.{count}
use Rattle.cstn_net.specs.Read.{the_network}
use Rattle.cstn_check.proofs.RoomLemmas.{most_by}
use Rattle.cstn_check.proofs.room.is_never_full.Given as goal

abbrev pub invariant-loop-x : goal.invariant-loop-x
invariant-loop-x l = record {
  end : l.x-end ≡ count (the_network l.net);
  most : l.most ≡ most_by (count (the_network l.net)) l.net.deadline (the_network l.net).observes l.x;
}
