use Rattle.std.proofs.Common.{ℕ, ◌≡◌, ◌<◌, true}
use Rattle.cstn_label.specs.Read.{marks, known_value}
use Rattle.cstn_exec.specs.Guides.{fits_surely}
use Rattle.cstn_exec.proofs.guides.sorting.holds_by.Given as goal

abbrev pub invariant-loop-index : goal.invariant-loop-index
invariant-loop-index l = (q : ℕ) → q < l.index → fits_surely (known_value l.fn.known q) (marks l.fn.label q) ≡ true
