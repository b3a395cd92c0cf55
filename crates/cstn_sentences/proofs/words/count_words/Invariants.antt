use Rattle.std.proofs.Common.{◌≡◌, ◌+◌, ◌≤◌, length}
use Rattle.cstn_sentences.specs.Words.{words_of}
use Rattle.cstn_sentences.proofs.words.count_words.Given as goal

abbrev pub invariant-loop-rest : goal.invariant-loop-rest
invariant-loop-rest l = (l.count + length (words_of l.left) ≡ length (words_of l.fn.left)) × (l.count + length l.left ≤ length l.fn.left)

abbrev pub decreases-loop-rest : goal.decreases-loop-rest
decreases-loop-rest l = length l.left
