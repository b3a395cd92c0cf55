use Rattle.cstn_element.proofs.InTurn.{goes_on, refused_inside, refused_next, is_ended}
use Rattle.cstn_element.proofs.laws.elements_are_read_in_turn.Goals as goal

pub returns-clause-child : goal.returns-clause-child
returns-clause-child g c = goes_on _ _ g.R.ElementReading.reading g.R.ElementReading.blanks

pub returns-clause-refused : goal.returns-clause-refused
returns-clause-refused g c = refused_inside _ _ _ g.R.ElementReading.reading g.R.ElementReading.seen g.R.ElementReading.blanks

pub returns-clause-wrong : goal.returns-clause-wrong
returns-clause-wrong g c = refused_next _ _ _ g.R.ElementReading.reading g.R.ElementReading.seen g.R.ElementReading.blanks

pub returns-clause-end : goal.returns-clause-end
returns-clause-end g c = is_ended _ _ _ g.R.ElementReading.reading g.R.ElementReading.seen g.R.ElementReading.blanks
