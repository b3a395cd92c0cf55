use Rattle.std.proofs.Common.{arith}
use Rattle.cstn_minset.proofs.BitLemmas.{count_less}
use Rattle.cstn_minset.proofs.SheetLemmas.{any_start, any_next, any_end}
use Rattle.cstn_minset.proofs.sheet.in_none.Goals as goal

pub loop-p-init : goal.loop-p-init
loop-p-init c = any_start c.args.words.now c.args.numbers

pub loop-p-smaller : goal.loop-p-smaller
loop-p-smaller c =
    count_less c.loop-p.rest c.without_least-rest.result c.in-Some.p (c.without_least-rest.ensures.gone c.in-Some.p c.in-Some.ensures.set (λ j below. c.in-Some.ensures.least j (omega arith) below))
    (λ k other. c.without_least-rest.ensures.others c.in-Some.p k c.in-Some.ensures.set (λ j below. c.in-Some.ensures.least j (omega arith) below) other) 64 c.in-Some.ensures.set c.in-Some.ensures.range

pub loop-p-preserved : goal.loop-p-preserved
loop-p-preserved c =
    any_next c.args.words.now c.args.numbers c.loop-p.rest c.without_least-rest.result c.in-Some.p c.loop-p.any
    c.in-Some.ensures.set (c.without_least-rest.ensures.gone c.in-Some.p c.in-Some.ensures.set (λ j below. c.in-Some.ensures.least j (omega arith) below))
    (λ k other. c.without_least-rest.ensures.others c.in-Some.p k c.in-Some.ensures.set (λ j below. c.in-Some.ensures.least j (omega arith) below) other) c.loop-p.invariant

pub returns : goal.returns
returns c =
    any_end c.args.words.now c.args.numbers c.loop-p.rest c.loop-p.any c.args.front c.bits_without.result c.in_default.ensures.none c.loop-p.invariant c.bits_without.ensures
