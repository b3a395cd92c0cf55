use Rattle.std.proofs.Common.{◌≡◌, ◌≤◌, length, take}
use Rattle.std.specs.Prelude.{vec_capacity}
use Rattle.cstn_edit.specs.Fresh.{fresh_with, constraint_ids}
use Rattle.cstn_edit.proofs.fresh.pick_fresh.Given as goal

abbrev pub invariant-loop-k : goal.invariant-loop-k
invariant-loop-k l = record {
  end : l.k-end ≡ length l.net.constraints;
  picked : l.list.items ≡ fresh_with l.id l.fresh (take l.k (constraint_ids l.net.constraints));
  short : length l.list.items ≤ l.k;
  room : vec_capacity l.fn.list ≤ vec_capacity l.list;
}
