use Rattle.cstn_label.specs.Read.{marks}
use Rattle.cstn_minset.proofs.BitLemmas.{count_below, IsPart}
use Rattle.cstn_minset.proofs.FloorLemmas.{AreRaised}
use Rattle.cstn_minset.proofs.gather.raise_on_page.Given as goal

abbrev pub invariant-loop-i : goal.invariant-loop-i
invariant-loop-i l = record {
  part : IsPart l.rest l.within;
  raised : AreRaised l.page.records.items (marks l.label) l.fn.greatest l.greatest;
}

abbrev pub decreases-loop-i : goal.decreases-loop-i
decreases-loop-i l = count_below l.rest 64
