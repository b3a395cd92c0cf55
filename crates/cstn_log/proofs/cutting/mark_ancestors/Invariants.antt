use Rattle.std.proofs.Common.{◌≡◌, ◌≤◌, length}
use Rattle.cstn_log.specs.Entries.{the_entries}
use Rattle.cstn_log.specs.Cuts.{with_ancestors}
use Rattle.cstn_log.proofs.cutting.mark_ancestors.Given as goal

abbrev pub decreases-loop-k : goal.decreases-loop-k
decreases-loop-k l = l.k

abbrev pub invariant-loop-k : goal.invariant-loop-k
invariant-loop-k l = record {
  inside : l.k ≤ length l.marks;
  size : length l.marks ≡ length l.fn.marks;
  reach : with_ancestors (the_entries l.list.entries) l.k l.marks ≡ with_ancestors (the_entries l.list.entries) (length l.fn.marks) l.fn.marks;
}
