use Rattle.std.proofs.Common.{◌≡◌, length}
use Rattle.cstn_sentences.specs.Words.{words_of}
use Rattle.cstn_sentences.specs.Grammar.{rest_read}
use Rattle.cstn_sentences.specs.Seen.{the_rest}
use Rattle.cstn_sentences.proofs.rests.read_rest.Given as goal

abbrev pub invariant-loop-word : goal.invariant-loop-word
invariant-loop-word l = rest_read (the_rest l.fn.rest) (words_of l.fn.left) ≡ rest_read (the_rest l.rest) (words_of l.left)

abbrev pub decreases-loop-word : goal.decreases-loop-word
decreases-loop-word l = length l.left
