use Rattle.std.proofs.Common.{◌≡◌, ◌<◌, ◌≤◌, ◌^◌, ◌∷◌, [], inl, arith, ap, length, length-set, length-append, refl}
use Rattle.cstn_pool.specs.Slots.{joined_slots}
use Rattle.cstn_pool.proofs.PoolLemmas.{taken_free, taken_born, new_free, new_born, last_inside, last_empty}
use Rattle.cstn_pool.proofs.PaddedLemmas.{past_used, shown_empty, shown_count, shown_taken, shown_new}
use Rattle.cstn_pool.proofs.JoinedLemmas.{joined_length, refilled, extended}
use Rattle.cstn_pool.proofs.CallLemmas.{calls_keep_capacity, takes}
use Rattle.cstn_pool.proofs.pool.Pool.take.Goals as goal

pub index_mut-requires : goal.index_mut-requires
index_mut-requires g c =
    omega (arith, last_inside _ _ _ (rw c.in-Some.ensures.items at c.self.invariant.empty), joined_length _ _ c.self.invariant.same, c.self.inside.born.ok)

pub index_mut-requires-in-Some : goal.index_mut-requires-in-Some
index_mut-requires-in-Some g c =
    omega (arith, last_inside _ _ _ (rw c.in-Some.ensures.items at c.self.invariant.empty), joined_length _ _ c.self.invariant.same, c.self.invariant.same, c.self.inside.values.ok)

pub invariant_of-self : goal.invariant_of-self
invariant_of-self g c =
    let popped = c.in-Some.ensures.items in
    let inv = c.self.invariant in
    let slot = c.in-Some.slot in
    let born = c.self.inside.born.items in
    let values = c.self.inside.values.items in
    let birth : c.self.inside.births < 2 ^ 63 = omega (arith, ap (λ p. p.births) c.self.view_is, c.requires) in
    let filled = refilled born values slot c.self.inside.births c.args.value inv.same birth in
    record {
      same = omega (arith, inv.same, length-set born slot c.self.inside.births, length-set values slot c.args.value);
      empty = rw filled (taken_free _ _ _ _ (rw popped at inv.empty));
      within = omega (arith, length-set born slot c.self.inside.births, inv.within);
      room_for_born = inv.room_for_born;
      room_for_values = inv.room_for_values;
      room_for_free = omega (arith, c.in-Some.ensures.capacity, inv.room_for_free);
      short = inv.short;
      few = omega (arith, birth);
      in_order = rw filled (taken_born _ _ _ _ (last_inside _ _ _ (rw popped at inv.empty)) inv.in_order);
    }

pub returns-in-Some-clause-empty : goal.returns-in-Some-clause-empty
returns-in-Some-clause-empty g c =
    let inv = c.self.invariant in
    let used = joined_slots c.self.inside.born.items c.self.inside.values.items in
    let size = joined_length c.self.inside.born.items c.self.inside.values.items inv.same in
    let free = rw c.in-Some.ensures.items at inv.empty in
    let inside = last_inside _ _ _ free in
    let within : length used ≤ c.self.inside.capacity = omega (arith, size, inv.within) in
    shown_empty c.self.inside.capacity c.self.inside.births c.in-Some.slot used _ c.self.view_is (omega (arith, inside, within)) within (last_empty _ _ _ free)

pub returns-in-Some-clause-taken : goal.returns-in-Some-clause-taken
returns-in-Some-clause-taken g c =
    let born = c.self.inside.born.items in
    let values = c.self.inside.values.items in
    let birth : c.self.inside.births < 2 ^ 63 = omega (arith, ap (λ p. p.births) c.self.view_is, c.requires) in
    rw (refilled born values c.in-Some.slot c.self.inside.births c.args.value c.self.invariant.same birth)
    (shown_taken c.self.inside.capacity c.self.inside.births c.in-Some.slot c.args.value (joined_slots born values) _ c.self.view_is (last_inside _ _ _ (rw c.in-Some.ensures.items at c.self.invariant.empty)))

pub returns-in-Some-clause-step : goal.returns-in-Some-clause-step
returns-in-Some-clause-step g c =
    takes c.args.self.now _ c.in-Some.slot c.self.inside.births c.args.value (returns-in-Some-clause-empty g c) (ap (λ p. p.births) c.self.view_is) (returns-in-Some-clause-taken g c)

pub returns-in-Some-clause-after_calls : goal.returns-in-Some-clause-after_calls
returns-in-Some-clause-after_calls g c = λ capacity calls after.
    let inv = c.self.invariant in
    let used = joined_slots c.self.inside.born.items c.self.inside.values.items in
    let within : length used ≤ c.self.inside.capacity = omega (arith, joined_length c.self.inside.born.items c.self.inside.values.items inv.same, inv.within) in
    let size = calls_keep_capacity capacity calls c.args.self.now after in
    let popped = length-append c.pop.new.self.items (c.in-Some.slot ∷ []) in
    let count = rw c.in-Some.ensures.items at (shown_count c.self.inside.capacity c.self.inside.births used c.self.inside.free.items _ c.self.view_is within inv.empty) in
    (λ _. omega (arith, size, count, popped, within), λ _. refl)

pub returns-then-slot-self-clause-full : goal.returns-then-slot-self-clause-full
returns-then-slot-self-clause-full g c =
    let inv = c.self.invariant in
    let used = joined_slots c.self.inside.born.items c.self.inside.values.items in
    let long = joined_length c.self.inside.born.items c.self.inside.values.items inv.same in
    let count = shown_count c.self.inside.capacity c.self.inside.births used c.self.inside.free.items _ c.self.view_is (omega (arith, long, inv.within)) inv.empty in
    (λ _. omega (arith, count, long, c.in_default.ensures.cases, c.self.inside.free.ok, c.self.inside.born.ok, c.if-slot-self.true, c.len-slot.ensures), λ _. refl)

pub returns-then-slot-self-clause-step : goal.returns-then-slot-self-clause-step
returns-then-slot-self-clause-step g c = inl ((returns-then-slot-self-clause-full g c).0 refl, c.self.view_is)

pub returns-then-slot-self-clause-after_calls : goal.returns-then-slot-self-clause-after_calls
returns-then-slot-self-clause-after_calls g c = λ capacity calls after.
    let inv = c.self.invariant in
    let used = joined_slots c.self.inside.born.items c.self.inside.values.items in
    let long = joined_length c.self.inside.born.items c.self.inside.values.items inv.same in
    let size = calls_keep_capacity capacity calls c.args.self.now after in
    let count = shown_count c.self.inside.capacity c.self.inside.births used c.self.inside.free.items _ c.self.view_is (omega (arith, long, inv.within)) inv.empty in
    (λ no. absurd (cc), λ less. absurd (omega (arith, size, count, long, less, c.in_default.ensures.cases, c.self.inside.free.ok, c.self.inside.born.ok, c.if-slot-self.true, c.len-slot.ensures)))

pub invariant_of-self-2 : goal.invariant_of-self-2
invariant_of-self-2 g c =
    let inv = c.self.invariant in
    let born = c.self.inside.born.items in
    let values = c.self.inside.values.items in
    let used = joined_slots born values in
    let long = joined_length born values inv.same in
    let birth : c.self.inside.births < 2 ^ 63 = omega (arith, ap (λ p. p.births) c.self.view_is, c.requires) in
    let none = c.in_default.ensures.cases in
    let more : length born < c.self.inside.capacity = omega (arith, c.if-slot-self.false, c.len-slot.ensures, c.self.inside.born.ok, inv.within) in
    let filled = extended born values c.self.inside.births c.args.value inv.same birth in
    rw (c.push_reserved.ensures.items, c.push_reserved-2.ensures.items)
    (record {
      same = omega (arith, inv.same, length-append born (c.self.inside.births ∷ []), length-append values (c.args.value ∷ []));
      empty = rw filled (new_free used c.self.inside.free.items c.pop.new.self.items (c.self.inside.births, c.args.value) inv.empty (omega (arith, none, c.self.inside.free.ok)) (omega (arith, none, c.pop.new.self.ok)));
      within = omega (arith, length-append born (c.self.inside.births ∷ []), more);
      room_for_born = omega (arith, c.push_reserved.ensures.capacity, inv.room_for_born);
      room_for_values = omega (arith, c.push_reserved-2.ensures.capacity, inv.room_for_values);
      room_for_free = omega (arith, c.in_default.ensures.capacity, inv.room_for_free);
      short = inv.short;
      few = omega (arith, birth);
      in_order = rw filled (new_born _ _ _ inv.in_order);
    })

pub returns-clause-full : goal.returns-clause-full
returns-clause-full g c =
    let inv = c.self.invariant in
    let used = joined_slots c.self.inside.born.items c.self.inside.values.items in
    let long = joined_length c.self.inside.born.items c.self.inside.values.items inv.same in
    let count = shown_count c.self.inside.capacity c.self.inside.births used c.self.inside.free.items _ c.self.view_is (omega (arith, long, inv.within)) inv.empty in
    let last : c.len-slot.result ≡ length c.self.inside.born.items = omega (arith, c.len-slot.ensures, c.self.inside.born.ok) in
    (λ no. absurd (cc), λ full. absurd (omega (arith, full, count, long, last, c.if-slot-self.false, inv.within)))

pub returns-clause-empty : goal.returns-clause-empty
returns-clause-empty g c =
    let inv = c.self.invariant in
    let used = joined_slots c.self.inside.born.items c.self.inside.values.items in
    let long = joined_length c.self.inside.born.items c.self.inside.values.items inv.same in
    let last : c.len-slot.result ≡ length used = omega (arith, c.len-slot.ensures, c.self.inside.born.ok, long) in
    let within : length used ≤ c.self.inside.capacity = omega (arith, long, inv.within) in
    shown_empty c.self.inside.capacity c.self.inside.births c.len-slot.result used _ c.self.view_is (omega (arith, c.if-slot-self.false, last, within)) within (rw last (past_used used))

pub returns-clause-taken : goal.returns-clause-taken
returns-clause-taken g c =
    let inv = c.self.invariant in
    let born = c.self.inside.born.items in
    let values = c.self.inside.values.items in
    let long = joined_length born values inv.same in
    let birth : c.self.inside.births < 2 ^ 63 = omega (arith, ap (λ p. p.births) c.self.view_is, c.requires) in
    let last : c.len-slot.result ≡ length (joined_slots born values) = omega (arith, c.len-slot.ensures, c.self.inside.born.ok, long) in
    rw (c.push_reserved.ensures.items, c.push_reserved-2.ensures.items, extended born values c.self.inside.births c.args.value inv.same birth, last)
    (shown_new c.self.inside.capacity c.self.inside.births c.args.value (joined_slots born values) _ c.self.view_is (omega (arith, c.if-slot-self.false, last, long, inv.within)))

pub returns-clause-step : goal.returns-clause-step
returns-clause-step g c =
    takes c.args.self.now _ c.len-slot.result c.self.inside.births c.args.value (returns-clause-empty g c) (ap (λ p. p.births) c.self.view_is) (returns-clause-taken g c)

pub returns-clause-after_calls : goal.returns-clause-after_calls
returns-clause-after_calls g c = λ capacity calls after.
    let inv = c.self.invariant in
    let used = joined_slots c.self.inside.born.items c.self.inside.values.items in
    let long = joined_length c.self.inside.born.items c.self.inside.values.items inv.same in
    let size = calls_keep_capacity capacity calls c.args.self.now after in
    let last : c.len-slot.result ≡ length c.self.inside.born.items = omega (arith, c.len-slot.ensures, c.self.inside.born.ok) in
    let count = shown_count c.self.inside.capacity c.self.inside.births used c.self.inside.free.items _ c.self.view_is (omega (arith, long, inv.within)) inv.empty in
    (λ _. omega (arith, size, count, long, last, c.if-slot-self.false, inv.within), λ _. refl)
