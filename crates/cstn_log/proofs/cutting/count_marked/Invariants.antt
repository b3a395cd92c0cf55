use Rattle.std.proofs.Common.{◌≡◌, ◌≤◌, length}
use Rattle.cstn_log.specs.Cuts.{rank}
use Rattle.cstn_log.proofs.cutting.count_marked.Given as goal

abbrev pub invariant-loop-k : goal.invariant-loop-k
invariant-loop-k l = record {
  end : l.k-end ≡ length l.marks;
  at_most : l.count ≤ l.k;
  count : l.count ≡ rank l.marks l.k;
}
