use Rattle.std.proofs.Common.{◌≡◌, length}
use Rattle.cstn_label.specs.Read.{marks}
use Rattle.cstn_label.specs.Labels.{empty}
use Rattle.cstn_element.specs.TextsSeen.{expects_of}
use Rattle.cstn_element.specs.LabelTexts.{label_after}
use Rattle.cstn_element.specs.LabelTexts.Expects.{literal}
use Rattle.cstn_element.proofs.label_texts.literals.Given as goal

abbrev pub invariant-loop-b : goal.invariant-loop-b
invariant-loop-b l = label_after literal empty l.bytes ≡ label_after (expects_of l.expects) (marks l.label) l.rest

abbrev pub decreases-loop-b : goal.decreases-loop-b
decreases-loop-b l = length l.rest
