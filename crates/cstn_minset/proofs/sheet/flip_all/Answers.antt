use Rattle.std.proofs.Common.{◌≡◌, length, arith, rules}
use Rattle.cstn_minset.proofs.BitLemmas.{count_less}
use Rattle.cstn_minset.proofs.SheetLemmas.{flipped_start, flipped_next}
use Rattle.cstn_minset.proofs.sheet.flip_all.Goals as goal

pub loop-p-init : goal.loop-p-init
loop-p-init c = flipped_start c.args.words.now c.args.numbers c.args.i

pub loop-p-smaller : goal.loop-p-smaller
loop-p-smaller c =
    count_less c.loop-p.rest c.without_least-rest.result c.in-Some.p (c.without_least-rest.ensures.gone c.in-Some.p c.in-Some.ensures.set (λ j below. c.in-Some.ensures.least j (omega arith) below))
    (λ k other. c.without_least-rest.ensures.others c.in-Some.p k c.in-Some.ensures.set (λ j below. c.in-Some.ensures.least j (omega arith) below) other) 64 c.in-Some.ensures.set c.in-Some.ensures.range

pub loop-p-preserved : goal.loop-p-preserved
loop-p-preserved c =
    let small = c.requires.numbers c.in-Some.p (c.loop-p.invariant.part c.in-Some.p c.in-Some.ensures.set) in
    let size : length c.args.words.now ≡ 52 = search rules in
    flipped_next c.args.words.now c.loop-p.words c.args.numbers c.args.i c.loop-p.rest c.without_least-rest.result c.in-Some.p c.with_flipped.result
    (omega (arith, small, size, c.loop-p.invariant.size)) c.loop-p.invariant c.in-Some.ensures.set (c.without_least-rest.ensures.gone c.in-Some.p c.in-Some.ensures.set (λ j below. c.in-Some.ensures.least j (omega arith) below))
    (λ k other. c.without_least-rest.ensures.others c.in-Some.p k c.in-Some.ensures.set (λ j below. c.in-Some.ensures.least j (omega arith) below) other) c.with_flipped.ensures.here c.with_flipped.ensures.others

pub returns-clause-flipped : goal.returns-clause-flipped
returns-clause-flipped c = λ p set. c.loop-p.invariant.flipped p set (c.in_default.ensures.none p (omega arith))

pub returns-clause-kept : goal.returns-clause-kept
returns-clause-kept c = c.loop-p.invariant.kept

pub returns-clause-others : goal.returns-clause-others
returns-clause-others c = c.loop-p.invariant.others
