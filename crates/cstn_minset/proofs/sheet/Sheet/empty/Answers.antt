use Rattle.cstn_minset.proofs.SheetLemmas.{nothing_marked}
use Rattle.cstn_minset.proofs.sheet.Sheet.empty.Goals as goal

pub returns : goal.returns
returns c = nothing_marked
