use Rattle.std.proofs.Common.{◌≡◌, inl, inr, ℕ, ◌+◌, [], ◌++◌, length, ap, refl, ◌∙◌, arith}
use Rattle.std.proofs.lemmas.Bool.{cases_eq}
use Rattle.std.proofs.lemmas.List.{get_or-set_other, get_or-set_same, length-set}
use Rattle.cstn_pool.specs.Slots.{padded}
use Rattle.cstn_minset.specs.Links.{AreEnds}
use Rattle.cstn_minset.proofs.WrittenLemmas.{leads_length, at_home, home_inside}
use Rattle.cstn_minset.proofs.places.Places.clear.Goals as goal

pub loop-head-init : goal.loop-head-init
loop-head-init c =
    let shown = ap (λ v. length v.places) c.self.view_is in
    let long = leads_length c.self.inside.slots c.self.inside.used.items c.self.inside.ends.items c.self.invariant.0 in
    record {
      none = c.clear.ensures.items;
      slots = ap (λ v. v.slots) c.self.view_is;
      count = omega (arith, shown, long);
      end = omega (arith, c.len-head-end.ensures, c.self.inside.ends.ok);
      room = omega (arith, c.clear.ensures.capacity, c.self.invariant.1);
      small = omega (arith, shown, long, c.self.invariant.2);
      home = λ h less. absurd (omega (arith, less));
    }

pub loop-head-preserved : goal.loop-head-preserved
loop-head-preserved c =
    let loop = c.loop-head.invariant in
    let ends = c.loop-head.self-inside.ends.items in
    let to : ℕ = c.loop-head.self-inside.slots + c.loop-head.head in
    let size = length-set ends c.loop-head.head to in
    record {
      none = loop.none;
      slots = loop.slots;
      count = omega (arith, loop.count, size);
      end = omega (arith, loop.end, size);
      room = loop.room;
      small = loop.small;
      home = λ h less. elim (cases_eq h c.loop-head.head) [
        | inl same ↦ rw same (get_or-set_same ends c.loop-head.head to 0 (omega (arith, loop.end, c.loop-head-test.true)))
        | inr other ↦ get_or-set_other ends c.loop-head.head h to 0 other ∙ loop.home h (omega (arith, less, other))
      ];
    }

pub invariant_of-self : goal.invariant_of-self
invariant_of-self c =
    let loop = c.loop-head.invariant in
    (omega (arith, ap length loop.none), loop.room, omega (arith, loop.count, loop.small))

pub returns-clause-size : goal.returns-clause-size
returns-clause-size c =
    let loop = c.loop-head.invariant in
    let within = ap length loop.none in
    let long = leads_length c.loop-head.self-inside.slots c.loop-head.self-inside.used.items c.loop-head.self-inside.ends.items (omega (arith, within)) in
    (loop.slots, omega (arith, long, loop.count))

pub returns-clause-ends : goal.returns-clause-ends
returns-clause-ends c = λ heads size.
    let loop = c.loop-head.invariant in
    let all : length c.loop-head.self-inside.ends.items ≡ heads = omega (arith, size, loop.count, loop.slots) in
    let home : AreEnds c.loop-head.self-inside.slots heads (padded 0 c.loop-head.self-inside.slots [] ++ c.loop-head.self-inside.ends.items) =
    at_home c.loop-head.self-inside.slots heads c.loop-head.self-inside.ends.items all (λ h inside. loop.home h (omega (arith, inside, all, loop.end, c.loop-head-test.false))) in
    rw (loop.none, ← loop.slots) home

pub returns-clause-inside : goal.returns-clause-inside
returns-clause-inside c =
    let loop = c.loop-head.invariant in
    let home = home_inside c.loop-head.self-inside.slots (length c.loop-head.self-inside.ends.items) c.loop-head.self-inside.ends.items refl (λ h inside. loop.home h (omega (arith, inside, loop.end, c.loop-head-test.false))) in
    rw (loop.none, ← loop.count) home
