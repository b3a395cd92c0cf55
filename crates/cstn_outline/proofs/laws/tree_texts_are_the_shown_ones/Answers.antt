use Rattle.cstn_outline.proofs.SaidLemmas.{text_said, text_says}
use Rattle.cstn_outline.proofs.laws.tree_texts_are_the_shown_ones.Goals as goal

pub returns : goal.returns
returns c = record { said = text_said; says = text_says }
