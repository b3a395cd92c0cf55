use Rattle.std.proofs.Common.{◌≡◌, [], length, ap, refl, arith}
use Rattle.cstn_minset.proofs.WrittenLemmas.{leads_length, at_home, home_inside}
use Rattle.cstn_minset.proofs.places.Places.start.Goals as goal

pub invariant_of-result : goal.invariant_of-result
invariant_of-result c =
    let none = ap length c.in_ok-used.ensures.items in
    (omega (arith, none), omega (arith, c.in_ok-used.ensures.capacity), omega (arith, c.requires, c.loop-head.invariant.size, c.loop-head.auto.head-end))

pub returns-clause-size : goal.returns-clause-size
returns-clause-size c =
    let all : length c.loop-head.ends.items ≡ c.args.heads = omega (arith, c.loop-head.invariant.size, c.loop-head.auto.head-end, c.loop-head-test.false) in
    rw c.in_ok-used.ensures.items (refl, omega (arith, leads_length c.args.slots [] c.loop-head.ends.items (omega arith), all))

pub returns-clause-ends : goal.returns-clause-ends
returns-clause-ends c =
    let all : length c.loop-head.ends.items ≡ c.args.heads = omega (arith, c.loop-head.invariant.size, c.loop-head.auto.head-end, c.loop-head-test.false) in
    rw c.in_ok-used.ensures.items (at_home c.args.slots c.args.heads c.loop-head.ends.items all (λ h inside. c.loop-head.invariant.home h (omega (arith, all, inside))))

pub returns-clause-inside : goal.returns-clause-inside
returns-clause-inside c =
    let all : length c.loop-head.ends.items ≡ c.args.heads = omega (arith, c.loop-head.invariant.size, c.loop-head.auto.head-end, c.loop-head-test.false) in
    rw c.in_ok-used.ensures.items (home_inside c.args.slots c.args.heads c.loop-head.ends.items all (λ h inside. c.loop-head.invariant.home h (omega (arith, all, inside))))
