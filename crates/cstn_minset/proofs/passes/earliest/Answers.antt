use Rattle.std.proofs.Common.{arith}
use Rattle.std.proofs.lemmas.Option.{slice_get-get_or}
use Rattle.cstn_minset.specs.Passes.{sought_kind}
use Rattle.cstn_minset.proofs.PassLemmas.{are_upto_more, are_upto_all}
use Rattle.cstn_minset.proofs.passes.earliest.Goals as goal

pub loop-page-preserved : goal.loop-page-preserved
loop-page-preserved c =
    let here = rw (← c.page-item.is) at (slice_get-get_or c.pages-page-items.result.now c.loop-page.page-index c.page-item.result (omega (arith, c.loop-page-test.true))) in
    rw c.earlier-best.ensures
    (are_upto_more c.args.births.now (sought_kind c.args.sought) c.args.low _ c.loop-page.page-index c.page-item.result c.loop-page.best c.earliest_on_page.result here c.loop-page.invariant c.earliest_on_page.ensures)

pub returns : goal.returns
returns c =
    are_upto_all c.args.births.now (sought_kind c.args.sought) c.args.low c.pages-page-items.result.now c.args.rows.now.pages c.loop-page.page-index c.loop-page.best c.pages-page-items.ensures.pages c.loop-page-test.false c.loop-page.invariant
