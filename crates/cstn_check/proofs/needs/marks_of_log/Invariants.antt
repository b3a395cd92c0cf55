use Rattle.std.proofs.Common.{◌≡◌, length, take}
use Rattle.cstn_net.specs.Read.{the_network}
use Rattle.cstn_log.specs.Entries.{the_entries}
use Rattle.cstn_check.specs.Needs.{AreMarked}
use Rattle.cstn_check.proofs.needs.marks_of_log.Given as goal

abbrev pub invariant-loop-k : goal.invariant-loop-k
invariant-loop-k l = record {
  end : l.k-end ≡ length l.log.entries;
  size : length l.marks.items ≡ length l.net.constraints;
  marked : AreMarked (the_network l.net) l.marks.items (the_entries (take l.k l.log.entries));
}
