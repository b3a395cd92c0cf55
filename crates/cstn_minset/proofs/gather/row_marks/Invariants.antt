use Rattle.std.proofs.Common.{length}
use Rattle.cstn_label.specs.Labels.{IsMarked}
use Rattle.cstn_label.specs.Read.{marks}
use Rattle.cstn_minset.specs.Pages.{numbered_pages}
use Rattle.cstn_minset.proofs.NumberLemmas.{left}
use Rattle.cstn_minset.proofs.ScanLemmas.{IsScanned}
use Rattle.cstn_minset.proofs.gather.row_marks.Given as goal

abbrev pub invariant-loop-place : goal.invariant-loop-place
invariant-loop-place l = IsScanned l.rows l.fn.node.0 (λ r. IsMarked (marks r.label) l.p.index) l.place

abbrev pub decreases-loop-place : goal.decreases-loop-place
decreases-loop-place l = left (length (numbered_pages l.rows)) l.place
