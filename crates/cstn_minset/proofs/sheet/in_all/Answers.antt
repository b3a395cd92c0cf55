use Rattle.std.proofs.Common.{arith, true, refl, bit_and}
use Rattle.std.specs.Prelude.{slice_index_or}
use Rattle.cstn_minset.proofs.BitLemmas.{count_less}
use Rattle.cstn_minset.proofs.SheetLemmas.{left_start, left_next, left_end, and_bits}
use Rattle.cstn_minset.proofs.sheet.in_all.Goals as goal

pub loop-p-init : goal.loop-p-init
loop-p-init c = left_start c.args.words.now c.args.numbers c.args.front true

pub loop-p-smaller : goal.loop-p-smaller
loop-p-smaller c =
    count_less c.loop-p.rest c.without_least-rest.result c.in-Some.p (c.without_least-rest.ensures.gone c.in-Some.p c.in-Some.ensures.set (λ j below. c.in-Some.ensures.least j (omega arith) below)) (λ k other. c.without_least-rest.ensures.others c.in-Some.p k c.in-Some.ensures.set (λ j below. c.in-Some.ensures.least j (omega arith) below) other) 64 c.in-Some.ensures.set c.in-Some.ensures.range

pub loop-p-preserved : goal.loop-p-preserved
loop-p-preserved c =
    let word = slice_index_or c.args.words.now c.in-Some.p 0 in
    left_next c.args.words.now c.args.numbers c.args.front true c.loop-p.rest c.without_least-rest.result c.in-Some.p c.loop-p.left (bit_and c.loop-p.left word)
    c.in-Some.ensures.set (c.without_least-rest.ensures.gone c.in-Some.p c.in-Some.ensures.set (λ j below. c.in-Some.ensures.least j (omega arith) below)) (λ k other. c.without_least-rest.ensures.others c.in-Some.p k c.in-Some.ensures.set (λ j below. c.in-Some.ensures.least j (omega arith) below) other) c.loop-p.invariant (and_bits c.loop-p.left word (bit_and c.loop-p.left word) refl)

pub returns : goal.returns
returns c = left_end c.args.words.now c.args.numbers c.args.front true c.loop-p.rest c.loop-p.left c.in_default.ensures.none c.loop-p.invariant
