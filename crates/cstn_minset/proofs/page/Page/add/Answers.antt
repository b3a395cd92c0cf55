use Rattle.std.proofs.Common.{arith}
use Rattle.std.proofs.lemmas.Int.{ints}
use Rattle.cstn_minset.proofs.PageLemmas.{page_with}
use Rattle.cstn_minset.proofs.page.Page.add.Goals as goal

pub returns-clause-page : goal.returns-clause-page
returns-clause-page c =
    let low = c.lower-self.ensures in
    let high = c.higher-self.ensures.upper in
    rw c.push.ensures.items (page_with _ _ _ _ _ _ c.requires.page (omega (arith, ints, low.0), omega (arith, ints, low.1)) (omega (arith, ints, high.0), omega (arith, ints, high.1)))
