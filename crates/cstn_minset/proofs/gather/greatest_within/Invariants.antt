use Rattle.std.proofs.Common.{◌≡◌, ◌⊎◌, ℕ, length}
use Rattle.std.specs.Prelude.{pos}
use Rattle.cstn_label.specs.Read.{marks}
use Rattle.cstn_minset.specs.declared.columns.Record.{Record}
use Rattle.cstn_minset.specs.Pages.{numbered_pages}
use Rattle.cstn_minset.specs.Sets.{IsRecordAt, IsRecordOf}
use Rattle.cstn_minset.proofs.NumberLemmas.{left}
use Rattle.cstn_minset.proofs.ScanLemmas.{IsScanned}
use Rattle.cstn_minset.proofs.gather.greatest_within.Given as goal

abbrev pub invariant-loop-place : goal.invariant-loop-place
invariant-loop-place l = record {
  scan : IsScanned l.rows l.fn.node.0 (λ r. ⊥) l.place;
  floor : (l.greatest ≡ pos 0) ⊎ ((k i : ℕ) × (r : Record) × IsRecordAt l.rows.pages l.fn.node.0 k i r × IsRecordOf (marks l.fn.label) l.greatest r);
}

abbrev pub decreases-loop-place : goal.decreases-loop-place
decreases-loop-place l = left (length (numbered_pages l.rows)) l.place
