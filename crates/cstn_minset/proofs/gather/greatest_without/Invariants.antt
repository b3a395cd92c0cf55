use Rattle.std.proofs.Common.{length}
use Rattle.cstn_label.specs.Read.{marks}
use Rattle.cstn_minset.specs.Pages.{numbered_pages}
use Rattle.cstn_minset.proofs.FloorLemmas.{AreFloors}
use Rattle.cstn_minset.proofs.NumberLemmas.{left}
use Rattle.cstn_minset.proofs.ScanLemmas.{IsScanned}
use Rattle.cstn_minset.proofs.gather.greatest_without.Given as goal

abbrev pub invariant-loop-place : goal.invariant-loop-place
invariant-loop-place l = record {
  scan : IsScanned l.rows l.fn.node.0 (λ r. ⊥) l.place;
  floors : AreFloors l.rows.pages l.fn.node.0 (marks l.label) l.greatest;
}

abbrev pub decreases-loop-place : goal.decreases-loop-place
decreases-loop-place l = left (length (numbered_pages l.rows)) l.place
