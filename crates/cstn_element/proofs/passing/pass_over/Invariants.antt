use Rattle.std.proofs.Common.{◌≡◌, ℕ, List, ◌≤◌, length}
use Rattle.cstn_element.specs.Passing.{Passes}
use Rattle.cstn_element.proofs.passing.pass_over.Given as goal

abbrev pub invariant-loop-open_names : goal.invariant-loop-open_names
invariant-loop-open_names l = record {
  same : (others : List (List ℕ)) → length others ≡ l.depth → Passes l.name l.open_names others l.fn.scanner l.scanner;
  less : length l.scanner ≤ length l.fn.scanner;
}

abbrev pub decreases-loop-open_names : goal.decreases-loop-open_names
decreases-loop-open_names l = length l.scanner
