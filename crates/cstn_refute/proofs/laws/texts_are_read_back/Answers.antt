use Rattle.cstn_refute.proofs.BackLemmas.{shown_back}
use Rattle.cstn_refute.proofs.OrderLemmas.{text_said}
use Rattle.cstn_refute.proofs.laws.texts_are_read_back.Goals as goal

pub returns-clause-back : goal.returns-clause-back
returns-clause-back c = shown_back

pub returns-clause-ranges : goal.returns-clause-ranges
returns-clause-ranges c = text_said
