use Rattle.cstn_minset.proofs.PlacingLemmas.{placed_exactly, size_after}
use Rattle.cstn_minset.proofs.laws.placing_leaves_what_nothing_later_dominates.Goals as goal

pub returns : goal.returns
returns c = record { exactly = placed_exactly; size = size_after }
