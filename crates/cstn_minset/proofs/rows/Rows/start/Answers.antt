use Rattle.std.proofs.Common.{◌∙◌, arith}
use Rattle.cstn_minset.proofs.RowLemmas.{opened_all, opened_none}
use Rattle.cstn_minset.proofs.rows.Rows.start.Goals as goal

pub invariant_of-result : goal.invariant_of-result
invariant_of-result c =
    let begun = c.open_all.ensures in
    opened_all _ _ _ _ c.open_all.new.links (begun.size.0.0 ∙ c.in_ok-links.ensures.size.0) (begun.size.0.1 ∙ c.in_ok-links.ensures.size.1) begun.opened begun.linked (omega (arith, begun.size.1, c.in_ok-pages.ensures.capacity)) (omega (arith, c.ranges.heads.fits), omega (arith, c.ranges.capacity.fits))

pub returns-clause-empty : goal.returns-clause-empty
returns-clause-empty c = opened_none _ _ c.open_all.ensures.opened
