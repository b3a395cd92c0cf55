use Rattle.cstn_label.specs.Labels.{IsWithin}
use Rattle.cstn_label.specs.Read.{marks}
use Rattle.cstn_minset.specs.Sets.{IsRecordOver}
use Rattle.cstn_minset.proofs.BitLemmas.{count_below}
use Rattle.cstn_minset.proofs.ScanLemmas.{IsLookedThrough}
use Rattle.cstn_minset.proofs.scan.over_on_page.Given as goal

abbrev pub invariant-loop-i : goal.invariant-loop-i
invariant-loop-i l = IsLookedThrough l.page.records.items (IsRecordOver l.b) (λ r. IsWithin (marks r.label) (marks l.b.label)) l.rest

abbrev pub decreases-loop-i : goal.decreases-loop-i
decreases-loop-i l = count_below l.rest 64
