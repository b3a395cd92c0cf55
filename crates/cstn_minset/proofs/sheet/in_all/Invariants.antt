use Rattle.std.proofs.Common.{true}
use Rattle.cstn_minset.proofs.BitLemmas.{count_below}
use Rattle.cstn_minset.proofs.SheetLemmas.{IsLeftBut}
use Rattle.cstn_minset.proofs.sheet.in_all.Given as goal

abbrev pub invariant-loop-p : goal.invariant-loop-p
invariant-loop-p l = IsLeftBut l.words l.numbers l.front true l.rest l.left

abbrev pub decreases-loop-p : goal.decreases-loop-p
decreases-loop-p l = count_below l.rest 64
