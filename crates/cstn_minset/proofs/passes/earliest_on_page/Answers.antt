use Rattle.std.proofs.Common.{arith}
use Rattle.std.proofs.lemmas.Option.{slice_get-get_or}
use Rattle.cstn_minset.specs.Passes.{sought_kind}
use Rattle.cstn_minset.proofs.PassLemmas.{upto_more, upto_all}
use Rattle.cstn_minset.proofs.passes.earliest_on_page.Goals as goal

pub loop-kept-preserved : goal.loop-kept-preserved
loop-kept-preserved c =
    let here = rw (← c.kept-item.is) at (slice_get-get_or c.as_slice-kept-items.result.now c.loop-kept.kept-index c.kept-item.result (omega (arith, c.loop-kept-test.true))) in
    rw c.earlier-best.ensures
    (upto_more c.args.births.now (sought_kind c.args.sought) c.args.low c.args.page.now.head _ c.loop-kept.kept-index c.kept-item.result c.loop-kept.best c.candidate.result here c.loop-kept.invariant c.candidate.ensures)

pub returns : goal.returns
returns c =
    upto_all c.args.births.now (sought_kind c.args.sought) c.args.low c.args.page.now c.as_slice-kept-items.result.now c.loop-kept.kept-index c.loop-kept.best c.as_slice-kept-items.ensures.value c.loop-kept-test.false c.loop-kept.invariant
