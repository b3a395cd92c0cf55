use Rattle.std.proofs.Common.{◌≡◌, take, length}
use Rattle.cstn_closed.proofs.lists.Closed.of.Given as goal

abbrev pub invariant-loop-k : goal.invariant-loop-k
invariant-loop-k l = record {
  end : l.k-end ≡ length l.plan.bounds;
  taken : l.bounds.items ≡ take l.k l.plan.bounds;
}
