use Rattle.cstn_element.proofs.InTurn.{document_goes_on, document_fails, blank_passes, document_refused, document_ends}
use Rattle.cstn_element.proofs.laws.documents_are_read_in_turn.Goals as goal

pub returns-clause-child : goal.returns-clause-child
returns-clause-child g c = document_goes_on _ _ g.R.ElementReading.reading g.R.ElementReading.blanks

pub returns-clause-refused : goal.returns-clause-refused
returns-clause-refused g c = document_fails _ _ g.R.ElementReading.reading g.R.ElementReading.blanks

pub returns-clause-blank : goal.returns-clause-blank
returns-clause-blank g c = blank_passes _ _ g.R.ElementReading.reading g.R.ElementReading.blanks

pub returns-clause-stray : goal.returns-clause-stray
returns-clause-stray g c = document_refused _ _ g.R.ElementReading.reading g.R.ElementReading.blanks

pub returns-clause-end : goal.returns-clause-end
returns-clause-end g c = document_ends _ _ g.R.ElementReading.reading g.R.ElementReading.blanks
