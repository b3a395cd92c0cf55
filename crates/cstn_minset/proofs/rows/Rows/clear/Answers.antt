use Rattle.std.proofs.Common.{◌∙◌, arith}
use Rattle.cstn_minset.proofs.RowLemmas.{opened_all, opened_none}
use Rattle.cstn_minset.proofs.rows.Rows.clear.Goals as goal

pub invariant_of-self : goal.invariant_of-self
invariant_of-self c =
    let inv = c.self.invariant in
    let begun = c.open_all.ensures in
    opened_all _ _ _ _ c.open_all.new.links (begun.size.0.0 ∙ c.clear.ensures.size.0 ∙ inv.slots) (begun.size.0.1 ∙ c.clear.ensures.size.1 ∙ inv.chains) begun.opened begun.linked (omega (arith, begun.size.1, c.clear-2.ensures.capacity, inv.enough)) inv.small

pub returns-clause-empty : goal.returns-clause-empty
returns-clause-empty c = opened_none _ _ c.open_all.ensures.opened
