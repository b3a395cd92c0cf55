use Rattle.cstn_outline.proofs.BackLemmas.{shown_back}
use Rattle.cstn_outline.proofs.laws.tree_texts_are_read_back.Goals as goal

pub returns : goal.returns
returns c = record { back = shown_back }
