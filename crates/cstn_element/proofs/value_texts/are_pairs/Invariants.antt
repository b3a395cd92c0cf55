use Rattle.std.proofs.Common.{◌≡◌, [], length}
use Rattle.std.specs.Prelude.{is_some}
use Rattle.cstn_element.specs.ValueTexts.{pairs_after}
use Rattle.cstn_element.proofs.value_texts.are_pairs.Given as goal

abbrev pub invariant-loop-next : goal.invariant-loop-next
invariant-loop-next l = is_some (pairs_after 0 [] l.bytes) ≡ is_some (pairs_after 0 [] l.rest)

abbrev pub decreases-loop-next : goal.decreases-loop-next
decreases-loop-next l = length l.rest
