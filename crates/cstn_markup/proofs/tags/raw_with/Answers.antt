use Rattle.std.proofs.Common.{◌≡◌, ◌+◌, ◌-◌, sym, ◌∙◌, ap, arith}
use Rattle.cstn_markup.specs.Tokens.{raw_with}
use Rattle.cstn_markup.proofs.Tails.{fronts, found_here, found_later, none_later, none_left}
use Rattle.cstn_markup.proofs.tags.raw_with.Goals as goal

pub returns-in_err-attribute : goal.returns-in_err-attribute
returns-in_err-attribute c =
    rw c.from_residual.ensures (ap (raw_with c.args.name.now) (sym (none_later (32 - c.loop-read._read) c.loop-read.rest.now (sym c.in_err-attribute.ensures))) ∙ c.loop-read.invariant.same)

pub returns-then-eq : goal.returns-then-eq
returns-then-eq c =
    found_here c.args.name.now _ _ _ (fronts c.args.name.now (32 - c.loop-read._read) c.loop-read.rest.now _ _ (omega (arith, c.loop-read-test.true)) (sym c.in_ok-attribute.ensures) c.loop-read.invariant.right) c.if-eq.ensures
    ∙ c.loop-read.invariant.same

pub loop-read-preserved : goal.loop-read-preserved
loop-read-preserved c =
    let f = fronts c.args.name.now (32 - c.loop-read._read) c.loop-read.rest.now _ _ (omega (arith, c.loop-read-test.true)) (sym c.in_ok-attribute.ensures) c.loop-read.invariant.right in
    let room : 32 - c.loop-read._read - 1 ≡ 32 - (c.loop-read._read + 1) = omega arith in
    rw (← room) (record { right = f.inside; same = found_later c.args.name.now _ _ _ f c.if-eq.ensures ∙ c.loop-read.invariant.same })

pub returns : goal.returns
returns c = none_left c.args.name.now (32 - c.loop-read._read) c.loop-read.rest.now (omega (arith, c.loop-read-test.false)) ∙ c.loop-read.invariant.same
