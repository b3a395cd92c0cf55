use Rattle.std.proofs.Common.{◌∙◌, arith, refl, sym, length-set}
use Rattle.cstn_pool.specs.Slots.{joined_slots, no_birth}
use Rattle.cstn_pool.proofs.PoolLemmas.{given_born, given_free, held_live, room_left}
use Rattle.cstn_pool.proofs.PaddedLemmas.{shown_value, shown_given}
use Rattle.cstn_pool.proofs.JoinedLemmas.{joined_length, joined_freed}
use Rattle.cstn_pool.proofs.CallLemmas.{gives}
use Rattle.cstn_pool.proofs.pool.Pool.give.Goals as goal

pub index_mut-requires : goal.index_mut-requires
index_mut-requires g c =
    let used = joined_slots c.self.inside.born.items c.self.inside.values.items in
    let held = held_live used c.args.id.slot c.args.id.birth c.in_ok-value.value (c.in_ok-value.ensures.value ∙ sym (shown_value _ _ c.args.id.slot c.args.id.birth used _ c.self.view_is)) in
    omega (arith, held.0, joined_length c.self.inside.born.items c.self.inside.values.items c.self.invariant.same, c.self.inside.born.ok)

pub push_reserved-requires : goal.push_reserved-requires
push_reserved-requires g c =
    let used = joined_slots c.self.inside.born.items c.self.inside.values.items in
    let held = held_live used c.args.id.slot c.args.id.birth c.in_ok-value.value (c.in_ok-value.ensures.value ∙ sym (shown_value _ _ c.args.id.slot c.args.id.birth used _ c.self.view_is)) in
    let left = room_left used c.self.inside.free.items c.args.id.slot held.0 held.1 c.self.invariant.empty in
    let long = joined_length c.self.inside.born.items c.self.inside.values.items c.self.invariant.same in
    omega (arith, left, long, c.self.inside.free.ok, c.self.invariant.within, c.self.invariant.room_for_free)

pub invariant_of-self : goal.invariant_of-self
invariant_of-self g c =
    let inv = c.self.invariant in
    let born = c.self.inside.born.items in
    let values = c.self.inside.values.items in
    let used = joined_slots born values in
    let held = held_live used c.args.id.slot c.args.id.birth c.in_ok-value.value (c.in_ok-value.ensures.value ∙ sym (shown_value _ _ c.args.id.slot c.args.id.birth used _ c.self.view_is)) in
    let size = length-set born c.args.id.slot no_birth in
    let freed = joined_freed born values c.args.id.slot inv.same in
    rw c.push_reserved.ensures.items
    (record {
      same = omega (arith, size, inv.same);
      empty = rw freed (given_free _ _ _ held.0 held.1 inv.empty);
      within = omega (arith, size, inv.within);
      room_for_born = inv.room_for_born;
      room_for_values = inv.room_for_values;
      room_for_free = omega (arith, c.push_reserved.ensures.capacity, inv.room_for_free);
      short = inv.short;
      few = inv.few;
      in_order = rw freed (given_born _ _ _ inv.in_order);
    })

pub returns-clause-given : goal.returns-clause-given
returns-clause-given g c =
    let used = joined_slots c.self.inside.born.items c.self.inside.values.items in
    let held = held_live used c.args.id.slot c.args.id.birth c.in_ok-value.value (c.in_ok-value.ensures.value ∙ sym (shown_value _ _ c.args.id.slot c.args.id.birth used _ c.self.view_is)) in
    λ _. rw (joined_freed c.self.inside.born.items c.self.inside.values.items c.args.id.slot c.self.invariant.same) (shown_given _ _ c.args.id.slot used _ c.self.view_is held.0)

pub returns-clause-step : goal.returns-clause-step
returns-clause-step g c = gives c.args.self.now _ c.args.id.slot c.args.id.birth c.in_ok-value.value c.in_ok-value.ensures.value (returns-clause-given g c refl)
