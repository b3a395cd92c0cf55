use Rattle.std.proofs.Common.{ℕ, List, ◌∷◌, ◌≤◌, length}
use Rattle.cstn_element.proofs.ChildLemmas.{AreSame}
use Rattle.cstn_element.proofs.children.next_child.Given as goal

abbrev pub invariant-loop-name : goal.invariant-loop-name
invariant-loop-name l = record {
  same : (others : List (List ℕ)) → AreSame (l.name ∷ others) l.fn.scanner l.scanner;
  less : length l.scanner ≤ length l.fn.scanner;
}

abbrev pub decreases-loop-name : goal.decreases-loop-name
decreases-loop-name l = length l.scanner
