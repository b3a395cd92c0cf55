use Rattle.std.proofs.Common.{◌≡◌, ◌≤◌, length}
use Rattle.std.specs.Prelude.{vec_capacity}
use Rattle.cstn_log.proofs.ChoiceLemmas.{IsChoosing}
use Rattle.cstn_log.proofs.list.choose.Given as goal

abbrev pub invariant-loop-k : goal.invariant-loop-k
invariant-loop-k g l = record {
  end : l.k-end ≡ length l.fn.values.items;
  choosing : IsChoosing l.marks l.fn.values.items l.values.items l.k l.count;
  at_most : l.count ≤ l.k;
  room : vec_capacity l.fn.values ≤ vec_capacity l.values;
}
