use Rattle.std.proofs.Common.{arith}
use Rattle.cstn_pool.specs.Slots.{joined_slots}
use Rattle.cstn_pool.proofs.JoinedLemmas.{joined_length, shown_clear}
use Rattle.cstn_pool.proofs.pool.Pool.clear.Goals as goal

pub returns-clause-cleared : goal.returns-clause-cleared
returns-clause-cleared g c =
    let long = joined_length c.self.inside.born.items c.self.inside.values.items c.self.invariant.same in
    rw c.clear.ensures.items (shown_clear c.self.inside.capacity c.self.inside.births (joined_slots c.self.inside.born.items c.self.inside.values.items) _ c.self.view_is (omega (arith, long, c.self.invariant.within)))

pub returns-clause-step : goal.returns-clause-step
returns-clause-step g c = returns-clause-cleared g c
