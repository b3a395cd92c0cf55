use Rattle.std.proofs.Common.{◌≡◌}
use Rattle.cstn_minset.proofs.ScanLemmas.{IsNoneUpto}
use Rattle.cstn_minset.proofs.scan.bound_on_page.Given as goal

abbrev pub invariant-loop-kept : goal.invariant-loop-kept
invariant-loop-kept l = IsNoneUpto l.kept-items l.kept-index (λ r. r.slot ≡ l.slot)
