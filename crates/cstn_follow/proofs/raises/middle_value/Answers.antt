use Rattle.std.proofs.Common.{ℕ, ◌+◌, None, sym, subst, ap, ◌∙◌}
use Rattle.std.specs.Prelude.{ℤ, pos, ◌/◌, ◌+ℤ◌, ◌-ℤ◌, ◌≤ℤ◌, ◌<ℤ◌}
use Rattle.std.specs.Int.{w32}
use Rattle.std.proofs.Common.{arith, to_z, of_z}
use Rattle.std.proofs.lemmas.Int.{ints, to_z-of_z}
use Rattle.cstn_net.specs.Limits.{most_deadline}
use Rattle.cstn_net.specs.Networks.{IsValue}
use Rattle.cstn_plan.specs.Asked.{moment_of}
use Rattle.cstn_follow.proofs.Halved.{middle_from, middle_before, middle_short}
use Rattle.cstn_net.proofs.Values.{value_fits}
use Rattle.cstn_follow.proofs.raises.middle_value.Goals as goal

pub returns : goal.returns
returns c =
    let low = c.args.low in
    let high = c.args.high in
    let low_is = to_z-of_z w32 low c.ranges.low in
    let high_is = to_z-of_z w32 high c.ranges.high in
    let ticks_is = c.ticks_between.ensures.ticks ∙ ap (λ (z : ℤ). moment_of (z -ℤ to_z w32 (of_z w32 low))) high_is ∙ ap (λ (z : ℤ). moment_of (high -ℤ z)) low_is in
    let is = to_z-of_z w32 c.value_below.result (value_fits c.value_below.result c.value_below.ensures.range) ∙ c.value_below.ensures.value
    ∙ ap (λ (z : ℤ). z -ℤ pos ((c.ticks_between.result + 1) / 2)) high_is ∙ ap (λ (n : ℕ). high -ℤ pos ((n + 1) / 2)) ticks_is in
    let order : low ≤ℤ high = (let less = c.requires.order in omega (arith, ints)) in
    let from = middle_from (λ w. None) low high order c.requires.order 0 in
    let before = middle_before (λ w. None) low high order c.requires.order 0 in
    let short = middle_short (λ w. None) low high order c.requires.order 0 most_deadline
    (let a = c.requires.low in let b = c.requires.high in omega (arith, ints)) in
    let a = c.requires.low in
    let b = c.requires.high in
    record {
      middle = is;
      value = subst (λ (z : ℤ). IsValue z) (sym is) (omega (arith, ints), omega (arith, ints));
      from = subst (λ (z : ℤ). low ≤ℤ z) (sym is) from;
      before = subst (λ (z : ℤ). z <ℤ high) (sym is) before;
      below = subst (λ (z : ℤ). (z -ℤ low) ≤ℤ pos most_deadline) (sym is) short.0;
      above = subst (λ (z : ℤ). (high -ℤ (z +ℤ pos 1)) ≤ℤ pos most_deadline) (sym is) short.1;
    }
