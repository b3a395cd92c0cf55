use Rattle.std.proofs.Common.{arith, Some, to_z, of_z, sym, ap, ◌∙◌}
use Rattle.std.specs.Prelude.{ℤ}
use Rattle.std.specs.Int.{w32}
use Rattle.std.proofs.lemmas.Int.{ints, to_z-of_z}
use Rattle.cstn_facts.proofs.Integers.{int_lt-false}
use Rattle.cstn_lift.specs.Read.{the_labelled}
use Rattle.cstn_history.specs.Read.{the_history}
use Rattle.cstn_follow.specs.Raises.{said_raised}
use Rattle.cstn_follow.proofs.Halved.{between_over}
use Rattle.cstn_follow.proofs.raises.least_raise.Goals as goal

pub returns : goal.returns
returns c =
    let e = c.args.execution.now in
    let low_is = to_z-of_z w32 c.args.low c.ranges.low in
    let high_is = to_z-of_z w32 c.args.high c.ranges.high in
    let over = int_lt-false (to_z w32 (of_z w32 c.args.low)) (to_z w32 (of_z w32 c.args.high)) c.if-low-high.false in
    ap (λ (z : ℤ). Some z) high_is ∙ sym (between_over (said_raised (the_labelled e.network) (the_history e.history) e.fresh c.args.cap.entries c.args.id) c.args.low c.args.high c.requires.order 21 (omega (arith, ints)))
