use Rattle.cstn_minset.proofs.BitLemmas.{count_below}
use Rattle.cstn_minset.proofs.SheetLemmas.{AreFlippedBut}
use Rattle.cstn_minset.proofs.sheet.flip_all.Given as goal

abbrev pub invariant-loop-p : goal.invariant-loop-p
invariant-loop-p l = AreFlippedBut l.fn.words l.words l.numbers l.i l.rest

abbrev pub decreases-loop-p : goal.decreases-loop-p
decreases-loop-p l = count_below l.rest 64
