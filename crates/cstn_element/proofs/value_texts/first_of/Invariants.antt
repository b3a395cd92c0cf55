use Rattle.std.proofs.Common.{◌≡◌, ◌≤◌, [], length}
use Rattle.cstn_element.specs.ValueTexts.{pairs_after}
use Rattle.cstn_element.proofs.value_texts.first_of.Given as goal

abbrev pub invariant-loop-b : goal.invariant-loop-b
invariant-loop-b l = record {
  same : pairs_after 0 [] l.bytes ≡ pairs_after 0 [] l.rest;
  within : length l.rest ≤ length l.bytes;
}

abbrev pub decreases-loop-b : goal.decreases-loop-b
decreases-loop-b l = length l.rest
