use Rattle.std.proofs.Common.{ℕ, ◌≡◌, ◌<◌, true, false, length, get_or}
use Rattle.cstn_check.specs.Givers.{is_of}
use Rattle.cstn_check.proofs.needs.marked.Given as goal

abbrev pub invariant-loop-k : goal.invariant-loop-k
invariant-loop-k l = record {
  end : l.k-end ≡ length l.ids;
  found : (k : ℕ) → k < l.k → is_of l.found.items (get_or l.ids k 0) ≡ false → get_or l.marks k true ≡ false;
}
