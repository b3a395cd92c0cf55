use Rattle.std.proofs.Common.{◌≡◌, ◌++◌, length}
use Rattle.cstn_text.specs.PrintedNames.{unprinted}
use Rattle.cstn_sentences.proofs.spelling.unprinted.Given as goal

abbrev pub invariant-loop-b : goal.invariant-loop-b
invariant-loop-b l = unprinted l.bytes ≡ l.text.items ++ unprinted l.left

abbrev pub decreases-loop-b : goal.decreases-loop-b
decreases-loop-b l = length l.left
