use Rattle.cstn_label.specs.Labels.{IsWithin}
use Rattle.cstn_label.specs.Read.{marks}
use Rattle.cstn_minset.specs.Sets.{IsRecordUnder}
use Rattle.cstn_minset.proofs.BitLemmas.{count_below}
use Rattle.cstn_minset.proofs.ScanLemmas.{IsLookedThrough}
use Rattle.cstn_minset.proofs.scan.under_on_page.Given as goal

abbrev pub invariant-loop-i : goal.invariant-loop-i
invariant-loop-i l = IsLookedThrough l.page.records.items (IsRecordUnder l.b) (λ r. IsWithin (marks l.b.label) (marks r.label)) l.rest

abbrev pub decreases-loop-i : goal.decreases-loop-i
decreases-loop-i l = count_below l.rest 64
