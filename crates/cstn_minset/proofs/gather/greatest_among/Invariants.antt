use Rattle.std.proofs.Common.{◌≡◌, ◌⊎◌, ℕ, true}
use Rattle.std.specs.Prelude.{Some, slice_get}
use Rattle.cstn_label.specs.Words.{has_bit}
use Rattle.cstn_minset.specs.declared.columns.Record.{Record}
use Rattle.cstn_minset.proofs.BitLemmas.{count_below, IsPart}
use Rattle.cstn_minset.proofs.gather.greatest_among.Given as goal

abbrev pub invariant-loop-i : goal.invariant-loop-i
invariant-loop-i l = record {
  part : IsPart l.rest l.bits;
  found : (l.greatest ≡ l.fn.floor) ⊎ ((i : ℕ) × (r : Record) × (slice_get l.page.records.items i ≡ Some r) × (has_bit l.bits i ≡ true) × (r.least ≡ l.greatest));
}

abbrev pub decreases-loop-i : goal.decreases-loop-i
decreases-loop-i l = count_below l.rest 64
