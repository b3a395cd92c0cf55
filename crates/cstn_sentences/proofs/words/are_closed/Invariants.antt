use Rattle.std.proofs.Common.{◌≡◌, length}
use Rattle.std.specs.List.{list_all}
use Rattle.cstn_sentences.specs.Words.{words_of, is_closed}
use Rattle.cstn_sentences.proofs.words.are_closed.Given as goal

abbrev pub invariant-loop-word : goal.invariant-loop-word
invariant-loop-word l = list_all is_closed (words_of l.left) ≡ list_all is_closed (words_of l.fn.left)

abbrev pub decreases-loop-word : goal.decreases-loop-word
decreases-loop-word l = length l.left
