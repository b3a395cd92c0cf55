use Rattle.std.proofs.Common.{◌≡◌, length}
use Rattle.cstn_minset.proofs.BitLemmas.{count_below, IsPart}
use Rattle.cstn_minset.proofs.FloorLemmas.{AreRaisedBy}
use Rattle.cstn_minset.proofs.gather.raise_by.Given as goal

abbrev pub invariant-loop-p : goal.invariant-loop-p
invariant-loop-p l = record {
  size : length l.greatest ≡ length l.fn.greatest;
  part : IsPart l.rest l.unmarked;
  raised : AreRaisedBy l.kept l.fn.greatest l.greatest;
}

abbrev pub decreases-loop-p : goal.decreases-loop-p
decreases-loop-p l = count_below l.rest 64
