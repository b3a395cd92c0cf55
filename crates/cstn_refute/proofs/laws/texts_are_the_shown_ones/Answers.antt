use Rattle.cstn_refute.proofs.BackLemmas.{text_back}
use Rattle.cstn_refute.proofs.OrderLemmas.{text_is}
use Rattle.cstn_refute.proofs.laws.texts_are_the_shown_ones.Goals as goal

pub returns-clause-said : goal.returns-clause-said
returns-clause-said c = text_is

pub returns-clause-says : goal.returns-clause-says
returns-clause-says c = text_back
