use Rattle.std.proofs.Common.{◌≡◌, length, take}
use Rattle.cstn_log.specs.Kept.{IsTabled}
use Rattle.cstn_log.proofs.putting.place_all.Given as goal

abbrev pub invariant-loop-k : goal.invariant-loop-k
invariant-loop-k l = record {
  end : l.k-end ≡ length l.list.ids;
  tabled : IsTabled l.minimal.table (take l.k l.list.entries) (take l.k l.list.ids);
  room : length l.minimal.table ≡ length l.fn.minimal.table;
  nodes : l.minimal.nodes ≡ l.fn.minimal.nodes;
}
