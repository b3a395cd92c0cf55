use Rattle.cstn_closed.proofs.BackLemmas.{text_back}
use Rattle.cstn_closed.proofs.SaidLemmas.{text_is}
use Rattle.cstn_closed.proofs.laws.closed_texts_are_the_shown_ones.Goals as goal

pub returns-clause-said : goal.returns-clause-said
returns-clause-said c = text_is

pub returns-clause-says : goal.returns-clause-says
returns-clause-says c = text_back
