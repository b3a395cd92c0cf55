use Rattle.std.proofs.Common.{◌≡◌, ◌++◌}
use Rattle.cstn_label.specs.Read.{marks}
use Rattle.cstn_sentences.specs.Printed.{spaced_words, label_words}
use Rattle.cstn_sentences.specs.Sentences.{literals_below}
use Rattle.cstn_sentences.proofs.WrittenLabels.{joint_after}
use Rattle.cstn_sentences.proofs.printed.push_label.Given as goal

abbrev pub invariant-loop-index : goal.invariant-loop-index
invariant-loop-index l = record {
  text : l.text.items ≡ l.fn.text.items ++ spaced_words (label_words (literals_below (marks l.label) l.index));
  joint : l.joint ≡ joint_after (literals_below (marks l.label) l.index);
}
