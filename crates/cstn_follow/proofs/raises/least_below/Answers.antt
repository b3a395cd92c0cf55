use Rattle.std.proofs.Common.{ℕ, ◌≡◌, Bool, Option, Some, None, arith, sym, subst, ap, ◌∙◌}
use Rattle.std.proofs.Common.{to_z, of_z}
use Rattle.std.specs.Prelude.{ℤ, pos, ◌-ℤ◌}
use Rattle.std.specs.Int.{w32}
use Rattle.std.specs.Option.{option_map}
use Rattle.std.proofs.lemmas.Int.{to_z-of_z}
use Rattle.cstn_plan.specs.Asked.{moment_of}
use Rattle.cstn_lift.specs.Read.{the_labelled}
use Rattle.cstn_check.specs.Search.{halving}
use Rattle.cstn_history.specs.Read.{the_history}
use Rattle.cstn_follow.specs.Raises.{said_raised}
use Rattle.cstn_follow.proofs.Halved.{found_upto}
use Rattle.cstn_net.proofs.Values.{value_fits}
use Rattle.cstn_follow.proofs.raises.least_below.Goals as goal

pub value_below-requires-clause-range : goal.value_below-requires-clause-range
value_below-requires-clause-range c =
    let upto = found_upto _ 20 c.ticks_between.result c.in-Some.ticks (sym c.in_ok-found.ensures ∙ c.in-Some.is) in
    let range = c.ticks_between.ensures.range in
    omega arith

pub returns-in-Some : goal.returns-in-Some
returns-in-Some c =
    let e = c.args.execution.now in
    let low = c.args.low in
    let high = c.args.high in
    let ticks = c.in-Some.ticks in
    let reach = c.ticks_between.result in
    let high_is = to_z-of_z w32 high c.ranges.high in
    let says : ℤ → Option Bool = said_raised (the_labelled e.network) (the_history e.history) e.fresh c.args.cap.entries c.args.id in
    let reach_is = c.ticks_between.ensures.ticks ∙ ap (λ (z : ℤ). moment_of (z -ℤ to_z w32 (of_z w32 low))) high_is
    ∙ ap (λ (z : ℤ). moment_of (high -ℤ z)) (to_z-of_z w32 low c.ranges.low) in
    let found = subst (λ (n : ℕ). halving (λ u. says (high -ℤ pos u)) 20 (record { low = 0; high = n }) ≡ Some ticks) reach_is
    (subst (λ (z : ℤ). halving (λ u. says (z -ℤ pos u)) 20 (record { low = 0; high = reach }) ≡ Some ticks) high_is (sym c.in_ok-found.ensures ∙ c.in-Some.is)) in
    ap (λ (z : ℤ). Some z) (to_z-of_z w32 c.value_below.result (value_fits c.value_below.result c.value_below.ensures.range) ∙ c.value_below.ensures.value
    ∙ ap (λ (z : ℤ). z -ℤ pos ticks) high_is) ∙ sym (ap (option_map (λ u. high -ℤ pos u)) found)

pub returns-in-None : goal.returns-in-None
returns-in-None c =
    let e = c.args.execution.now in
    let low = c.args.low in
    let high = c.args.high in
    let reach = c.ticks_between.result in
    let high_is = to_z-of_z w32 high c.ranges.high in
    let says : ℤ → Option Bool = said_raised (the_labelled e.network) (the_history e.history) e.fresh c.args.cap.entries c.args.id in
    let reach_is = c.ticks_between.ensures.ticks ∙ ap (λ (z : ℤ). moment_of (z -ℤ to_z w32 (of_z w32 low))) high_is
    ∙ ap (λ (z : ℤ). moment_of (high -ℤ z)) (to_z-of_z w32 low c.ranges.low) in
    let found = subst (λ (n : ℕ). halving (λ u. says (high -ℤ pos u)) 20 (record { low = 0; high = n }) ≡ None) reach_is
    (subst (λ (z : ℤ). halving (λ u. says (z -ℤ pos u)) 20 (record { low = 0; high = reach }) ≡ None) high_is (sym c.in_ok-found.ensures ∙ c.in-None.is)) in
    sym (ap (option_map (λ u. high -ℤ pos u)) found)
