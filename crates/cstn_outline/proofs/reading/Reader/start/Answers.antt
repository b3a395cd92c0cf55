use Rattle.std.proofs.Common.{ℕ, List, [], ◌∷◌, ◌++◌, ap, ◌∙◌}
use Rattle.cstn_outline.proofs.ReadLemmas.{reader_first}
use Rattle.cstn_outline.proofs.reading.Reader.start.Goals as goal

pub returns-clause-reader : goal.returns-clause-reader
returns-clause-reader c = λ n.
    reader_first n _ c.new.ensures.items (c.in_ok-push.ensures.items ∙ ap (λ (l : List ℕ). l ++ 1 ∷ []) c.new-ahead.ensures.items)
