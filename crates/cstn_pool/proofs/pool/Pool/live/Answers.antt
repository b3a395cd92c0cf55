use Rattle.std.proofs.Common.{arith}
use Rattle.cstn_pool.specs.Slots.{joined_slots}
use Rattle.cstn_pool.proofs.JoinedLemmas.{joined_length}
use Rattle.cstn_pool.proofs.PaddedLemmas.{padded_live}
use Rattle.cstn_pool.proofs.pool.Pool.live.Goals as goal

pub overflow_sub-result : goal.overflow_sub-result
overflow_sub-result g c =
    omega (arith, c.len.ensures, c.len-2.ensures, c.self.inside.born.ok, c.self.inside.free.ok, c.self.invariant.empty.count, joined_length c.self.inside.born.items c.self.inside.values.items c.self.invariant.same)

pub returns-clause-live : goal.returns-clause-live
returns-clause-live g c =
    let used = joined_slots c.self.inside.born.items c.self.inside.values.items in
    let long = joined_length c.self.inside.born.items c.self.inside.values.items c.self.invariant.same in
    rw (← c.self.view_is) (omega (arith, c.len.ensures, c.len-2.ensures, c.self.inside.born.ok, c.self.inside.free.ok, c.self.invariant.empty.count, long, padded_live c.self.inside.capacity used))
