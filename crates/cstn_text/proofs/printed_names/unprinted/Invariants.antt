use Rattle.std.proofs.Common.{◌≡◌, ◌++◌, length}
use Rattle.cstn_text.specs.PrintedNames.{printed_name}
use Rattle.cstn_text.proofs.printed_names.unprinted.Given as goal

abbrev pub invariant-loop-left : goal.invariant-loop-left
invariant-loop-left l = l.bytes ≡ printed_name l.text.items ++ l.left

abbrev pub decreases-loop-left : goal.decreases-loop-left
decreases-loop-left l = length l.left
