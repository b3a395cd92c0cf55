use Rattle.std.proofs.Common.{◌≡◌, length}
use Rattle.cstn_label.specs.Labels.{empty}
use Rattle.cstn_label.specs.Read.{marks}
use Rattle.cstn_sentences.specs.Meaning.{label_meant_after}
use Rattle.cstn_sentences.proofs.meaning.label_meant.Given as goal

abbrev pub invariant-loop-literal : goal.invariant-loop-literal
invariant-loop-literal l = label_meant_after l.fn.n l.fn.words empty l.fn.literals ≡ label_meant_after l.fn.n l.fn.words (marks l.label) l.left

abbrev pub decreases-loop-literal : goal.decreases-loop-literal
decreases-loop-literal l = length l.left
