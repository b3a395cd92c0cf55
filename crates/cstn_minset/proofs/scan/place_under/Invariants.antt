use Rattle.std.proofs.Common.{length}
use Rattle.cstn_minset.specs.Pages.{numbered_pages}
use Rattle.cstn_minset.proofs.NumberLemmas.{left}
use Rattle.cstn_minset.specs.Sets.{IsRecordUnder}
use Rattle.cstn_minset.proofs.ScanLemmas.{IsScanned}
use Rattle.cstn_minset.proofs.scan.place_under.Given as goal

abbrev pub invariant-loop-place : goal.invariant-loop-place
invariant-loop-place l = IsScanned l.rows l.b.node.0 (IsRecordUnder l.b) l.place

abbrev pub decreases-loop-place : goal.decreases-loop-place
decreases-loop-place l = left (length (numbered_pages l.rows)) l.place
