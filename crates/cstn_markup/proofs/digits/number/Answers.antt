use Rattle.std.proofs.Common.{◌<◌, length, arith, refl, ◌∙◌}
use Rattle.cstn_markup.proofs.Numbers.{digit_fits, digit_read, some_room, ten_digits}
use Rattle.cstn_markup.proofs.digits.number.Goals as goal

pub loop-d-init : goal.loop-d-init
loop-d-init c = record { few = omega arith; small = some_room _ _ (omega (arith, c.requires.two)); value = refl }

pub overflow_mul-n : goal.overflow_mul-n
overflow_mul-n c =
    let v : c.in_ok-value.value < c.args.radix = omega (arith, c.in_ok-value.ensures.value.0, c.in_ok-value.ensures.value.1) in
    let h = digit_fits (length c.args.digits.now) c.loop-d.n c.args.radix c.in_ok-value.value _ _ _ c.in-Some.ensures.cases.0 c.loop-d.invariant.few c.loop-d.invariant.small v in
    omega (arith, ten_digits c.args.radix (length c.args.digits.now) (length c.in-Some.next.now) _ c.requires.two c.requires.small c.requires.few h.1)

pub overflow_add-n : goal.overflow_add-n
overflow_add-n c =
    let v : c.in_ok-value.value < c.args.radix = omega (arith, c.in_ok-value.ensures.value.0, c.in_ok-value.ensures.value.1) in
    let h = digit_fits (length c.args.digits.now) c.loop-d.n c.args.radix c.in_ok-value.value _ _ _ c.in-Some.ensures.cases.0 c.loop-d.invariant.few c.loop-d.invariant.small v in
    omega (arith, ten_digits c.args.radix (length c.args.digits.now) (length c.in-Some.next.now) _ c.requires.two c.requires.small c.requires.few h.1)

pub loop-d-preserved : goal.loop-d-preserved
loop-d-preserved c =
    let v : c.in_ok-value.value < c.args.radix = omega (arith, c.in_ok-value.ensures.value.0, c.in_ok-value.ensures.value.1) in
    let h = digit_fits (length c.args.digits.now) c.loop-d.n c.args.radix c.in_ok-value.value _ _ _ c.in-Some.ensures.cases.0 c.loop-d.invariant.few c.loop-d.invariant.small v in
    record { few = h.0; small = h.1; value = digit_read c.loop-d.n c.args.radix _ _ _ _ c.in-Some.ensures.cases.0 c.in_ok-value.ensures.value.0 c.in_ok-value.ensures.value.1 ∙ c.loop-d.invariant.value }
