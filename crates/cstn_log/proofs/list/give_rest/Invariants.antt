use Rattle.std.proofs.Common.{◌≡◌}
use Rattle.cstn_log.specs.Kept.{AreLeft}
use Rattle.cstn_log.specs.Lists.{ids_in}
use Rattle.cstn_log.proofs.list.give_rest.Given as goal

abbrev pub invariant-loop-k : goal.invariant-loop-k
invariant-loop-k l = record {
  left : AreLeft l.marks (ids_in l.fn.pool.slots l.slots) l.k l.fn.pool.slots l.pool.slots;
  births : l.pool.births ≡ l.fn.pool.births;
}
