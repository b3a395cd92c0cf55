use Rattle.std.proofs.Common.{◌≡◌, Bool, Option, Some, sym, subst, ap, ◌∙◌}
use Rattle.std.proofs.Common.{arith, to_z, of_z}
use Rattle.std.specs.Prelude.{ℤ, pos, ◌+ℤ◌}
use Rattle.std.specs.Int.{w32}
use Rattle.std.proofs.lemmas.Int.{ints, to_z-of_z}
use Rattle.std.proofs.lemmas.Result.{IfOk-weaker}
use Rattle.cstn_lift.specs.Read.{the_labelled}
use Rattle.cstn_history.specs.Read.{the_history}
use Rattle.cstn_follow.specs.Raises.{said_raised, middle_value, least_between}
use Rattle.cstn_follow.proofs.Halved.{between_yes, between_no, between_none}
use Rattle.cstn_net.proofs.Values.{value_fits}
use Rattle.cstn_follow.proofs.raises.least_step.Goals as goal

pub least_below-requires-clause-order : goal.least_below-requires-clause-order
least_below-requires-clause-order c =
    let low_in = to_z-of_z w32 c.args.low c.ranges.low in
    let mid = c.middle_value-middle.result in
    let mid_in = to_z-of_z w32 mid (value_fits mid c.middle_value-middle.ensures.value) in
    let from = c.middle_value-middle.ensures.from in
    omega (arith, ints)

pub least_below-requires-clause-short : goal.least_below-requires-clause-short
least_below-requires-clause-short c =
    let low_in = to_z-of_z w32 c.args.low c.ranges.low in
    let mid = c.middle_value-middle.result in
    let mid_in = to_z-of_z w32 mid (value_fits mid c.middle_value-middle.ensures.value) in
    let below = c.middle_value-middle.ensures.below in
    omega (arith, ints)

pub next_value-requires-clause-low : goal.next_value-requires-clause-low
next_value-requires-clause-low c =
    let low_in = to_z-of_z w32 c.args.low c.ranges.low in
    let mid = c.middle_value-middle.result in
    let mid_in = to_z-of_z w32 mid (value_fits mid c.middle_value-middle.ensures.value) in
    let from = c.middle_value-middle.ensures.from in
    let least = c.requires.low in
    omega (arith, ints)

pub next_value-requires-clause-high : goal.next_value-requires-clause-high
next_value-requires-clause-high c =
    let high_in = to_z-of_z w32 c.args.high c.ranges.high in
    let mid = c.middle_value-middle.result in
    let mid_in = to_z-of_z w32 mid (value_fits mid c.middle_value-middle.ensures.value) in
    let before = c.middle_value-middle.ensures.before in
    let most = c.requires.high in
    omega (arith, ints)

pub least_below-requires-in-Some-false-clause-order : goal.least_below-requires-in-Some-false-clause-order
least_below-requires-in-Some-false-clause-order c =
    let high_in = to_z-of_z w32 c.args.high c.ranges.high in
    let mid = c.middle_value-middle.result in
    let mid_in = to_z-of_z w32 mid (value_fits mid c.middle_value-middle.ensures.value) in
    let next_in = to_z-of_z w32 c.next_value.result (value_fits c.next_value.result c.next_value.ensures.value) in
    let next_is = c.next_value.ensures.next in
    let before = c.middle_value-middle.ensures.before in
    omega (arith, ints)

pub least_below-requires-in-Some-false-clause-low : goal.least_below-requires-in-Some-false-clause-low
least_below-requires-in-Some-false-clause-low c =
    let low_in = to_z-of_z w32 c.args.low c.ranges.low in
    let mid = c.middle_value-middle.result in
    let mid_in = to_z-of_z w32 mid (value_fits mid c.middle_value-middle.ensures.value) in
    let next_in = to_z-of_z w32 c.next_value.result (value_fits c.next_value.result c.next_value.ensures.value) in
    let next_is = c.next_value.ensures.next in
    let from = c.middle_value-middle.ensures.from in
    let least = c.requires.low in
    omega (arith, ints)

pub least_below-requires-in-Some-false-clause-short : goal.least_below-requires-in-Some-false-clause-short
least_below-requires-in-Some-false-clause-short c =
    let high_in = to_z-of_z w32 c.args.high c.ranges.high in
    let mid = c.middle_value-middle.result in
    let mid_in = to_z-of_z w32 mid (value_fits mid c.middle_value-middle.ensures.value) in
    let next_in = to_z-of_z w32 c.next_value.result (value_fits c.next_value.result c.next_value.ensures.value) in
    let next_is = c.next_value.ensures.next in
    let above = c.middle_value-middle.ensures.above in
    omega (arith, ints)

pub returns-in-None : goal.returns-in-None
returns-in-None c =
    let e = c.args.execution.now in
    let low = c.args.low in
    let high = c.args.high in
    let mid = c.middle_value-middle.result in
    let mid_in = to_z-of_z w32 mid (value_fits mid c.middle_value-middle.ensures.value) in
    let mid_is = mid_in ∙ c.middle_value-middle.ensures.middle ∙ ap (λ (z : ℤ). middle_value z (to_z w32 (of_z w32 high))) (to_z-of_z w32 low c.ranges.low)
    ∙ ap (middle_value low) (to_z-of_z w32 high c.ranges.high) in
    let says : ℤ → Option Bool = said_raised (the_labelled e.network) (the_history e.history) e.fresh c.args.cap.entries c.args.id in
    let said = subst (λ (z : ℤ). c.in_ok-said.said ≡ says z) mid_is c.in_ok-said.ensures.said in
    sym (between_none says low high (let less = c.requires.order in omega (arith, ints)) c.requires.order 20 (sym said ∙ c.in-None.is))

pub returns-in-Some-true : goal.returns-in-Some-true
returns-in-Some-true c =
    let e = c.args.execution.now in
    let low = c.args.low in
    let high = c.args.high in
    let mid = c.middle_value-middle.result in
    let mid_in = to_z-of_z w32 mid (value_fits mid c.middle_value-middle.ensures.value) in
    let mid_is = mid_in ∙ c.middle_value-middle.ensures.middle ∙ ap (λ (z : ℤ). middle_value z (to_z w32 (of_z w32 high))) (to_z-of_z w32 low c.ranges.low)
    ∙ ap (middle_value low) (to_z-of_z w32 high c.ranges.high) in
    let says : ℤ → Option Bool = said_raised (the_labelled e.network) (the_history e.history) e.fresh c.args.cap.entries c.args.id in
    let said = subst (λ (z : ℤ). c.in_ok-said.said ≡ says z) mid_is c.in_ok-said.ensures.said in
    let is = sym said ∙ c.in-Some-true.is ∙ ap (λ b. Some b) c.in-Some-true.field-0-test in
    IfOk-weaker c.least_below.result _ _
    (λ o found. found ∙ ap (λ (z : ℤ). least_between says 20 z (to_z w32 (of_z w32 mid))) (to_z-of_z w32 low c.ranges.low) ∙ ap (least_between says 20 low) mid_is
    ∙ sym (between_yes says low high (let less = c.requires.order in omega (arith, ints)) c.requires.order 20 is))
    c.least_below.ensures

pub returns-in-Some-false : goal.returns-in-Some-false
returns-in-Some-false c =
    let e = c.args.execution.now in
    let low = c.args.low in
    let high = c.args.high in
    let mid = c.middle_value-middle.result in
    let next = c.next_value.result in
    let mid_in = to_z-of_z w32 mid (value_fits mid c.middle_value-middle.ensures.value) in
    let mid_is = mid_in ∙ c.middle_value-middle.ensures.middle ∙ ap (λ (z : ℤ). middle_value z (to_z w32 (of_z w32 high))) (to_z-of_z w32 low c.ranges.low)
    ∙ ap (middle_value low) (to_z-of_z w32 high c.ranges.high) in
    let next_is = to_z-of_z w32 next (value_fits next c.next_value.ensures.value) ∙ c.next_value.ensures.next ∙ ap (λ (z : ℤ). z +ℤ pos 1) mid_is in
    let says : ℤ → Option Bool = said_raised (the_labelled e.network) (the_history e.history) e.fresh c.args.cap.entries c.args.id in
    let said = subst (λ (z : ℤ). c.in_ok-said.said ≡ says z) mid_is c.in_ok-said.ensures.said in
    let is = sym said ∙ c.in-Some-false.is ∙ ap (λ b. Some b) c.in-Some-false.field-0-test in
    IfOk-weaker c.least_below-in-Some-false.result _ _
    (λ o found. found ∙ ap (λ (z : ℤ). least_between says 20 z (to_z w32 (of_z w32 high))) next_is
    ∙ ap (least_between says 20 (middle_value low high +ℤ pos 1)) (to_z-of_z w32 high c.ranges.high)
    ∙ sym (between_no says low high (let less = c.requires.order in omega (arith, ints)) c.requires.order 20 is))
    c.least_below-in-Some-false.ensures
