use Rattle.std.proofs.Common.{◌≡◌, length}
use Rattle.cstn_sentences.specs.Declarations.{letter_for}
use Rattle.cstn_sentences.proofs.declarations.letter_for.Given as goal

abbrev pub invariant-loop-m : goal.invariant-loop-m
invariant-loop-m l = letter_for l.fn.word l.fn.words ≡ letter_for l.fn.word l.left

abbrev pub decreases-loop-m : goal.decreases-loop-m
decreases-loop-m l = length l.left
