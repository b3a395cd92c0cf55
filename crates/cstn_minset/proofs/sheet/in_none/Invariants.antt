use Rattle.cstn_minset.proofs.BitLemmas.{count_below}
use Rattle.cstn_minset.proofs.SheetLemmas.{IsAnyBut}
use Rattle.cstn_minset.proofs.sheet.in_none.Given as goal

abbrev pub invariant-loop-p : goal.invariant-loop-p
invariant-loop-p l = IsAnyBut l.words l.numbers l.rest l.any

abbrev pub decreases-loop-p : goal.decreases-loop-p
decreases-loop-p l = count_below l.rest 64
