use Rattle.std.proofs.Common.{◌≡◌, ◌≤◌, map, length}
use Rattle.std.specs.List.{filter, range_with_len}
use Rattle.cstn_exec.specs.Runs.{is_free_by}
use Rattle.cstn_exec.proofs.executive.naming.collect.Given as goal

abbrev pub invariant-loop-x : goal.invariant-loop-x
invariant-loop-x l = record {
  named : map (λ x. x.0) l.named.items ≡ filter (is_free_by l.fn.moments l.fn.after l.fn.t) (range_with_len 0 l.x);
  room : length l.named.items ≤ l.x;
  capacity : l.named.capacity ≡ l.initial.named.capacity;
}
