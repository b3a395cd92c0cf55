use Rattle.std.proofs.Common.{refl}
use Rattle.cstn_element.specs.Elements.{passed}
use Rattle.cstn_element.proofs.Wholes.{closed_whole}
use Rattle.cstn_element.proofs.passing.pass_element.Goals as goal

pub returns-then-start-clause-reads : goal.returns-then-start-clause-reads
unfolding passed
returns-then-start-clause-reads c = λ names l. closed_whole (λ u. u) passed _ _ _ _ names _ c.if-start.true refl
