use Rattle.std.proofs.Common.{ℕ, ap, sym, Vec, Global, Ok}
use Rattle.cstn_element.specs.Elements.{texts, read_by}
use Rattle.cstn_element.proofs.Wholes.{closed_whole}
use Rattle.cstn_element.proofs.data_element_text.read_element_text.Goals as goal

pub returns-then-start-clause-reads : goal.returns-then-start-clause-reads
unfolding read_by
returns-then-start-clause-reads c = λ names. closed_whole (λ (v : Vec ℕ Global). v.items) texts _ _ _ _ names _ c.if-start.true (ap (λ x. Ok x) (sym c.new.ensures.items))
