use Rattle.std.proofs.Common.{◌≡◌}
use Rattle.cstn_minset.proofs.ScanLemmas.{AreNoneUpto}
use Rattle.cstn_minset.proofs.scan.bound_in.Given as goal

abbrev pub invariant-loop-page : goal.invariant-loop-page
invariant-loop-page l = AreNoneUpto l.page-items l.page-index (λ r. r.slot ≡ l.slot)
