use Rattle.cstn_closed.proofs.BackLemmas.{shown_back}
use Rattle.cstn_closed.proofs.SaidLemmas.{text_said}
use Rattle.cstn_closed.proofs.laws.closed_texts_are_read_back.Goals as goal

pub returns-clause-back : goal.returns-clause-back
returns-clause-back c = shown_back

pub returns-clause-ranges : goal.returns-clause-ranges
returns-clause-ranges c = text_said
