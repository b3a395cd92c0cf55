use Rattle.std.proofs.Common.{◌≡◌, ◌≤◌, [], length, drop}
use Rattle.std.specs.Prelude.{vec_capacity}
use Rattle.cstn_log.specs.Entries.{the_entries}
use Rattle.cstn_log.specs.Cuts.{marked_staying}
use Rattle.cstn_log.proofs.cutting.mark_staying.Given as goal

abbrev pub invariant-loop-k : goal.invariant-loop-k
invariant-loop-k l = record {
  end : l.k-end ≡ length l.list.entries;
  size : length l.marks.items ≡ l.k;
  room : vec_capacity l.fn.marks ≤ vec_capacity l.marks;
  reach : marked_staying l.constraint l.marks.items (drop l.k (the_entries l.list.entries)) ≡ marked_staying l.constraint [] (the_entries l.list.entries);
}
