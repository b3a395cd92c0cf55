use Rattle.std.proofs.Common.{◌≡◌, ◌≤◌, ◌++◌, ◌-◌}
use Rattle.std.specs.Prelude.{string_bytes}
use Rattle.cstn_label.specs.Read.{marks}
use Rattle.cstn_text.specs.PrintedLabels.{marks_below}
use Rattle.cstn_text.proofs.printed_labels.push_marks.Given as goal

abbrev pub invariant-loop-p : goal.invariant-loop-p
invariant-loop-p l = record {
  text : string_bytes l.text ≡ string_bytes l.initial.text ++ marks_below (marks l.label) l.from;
  small : l.from ≤ 52;
}

abbrev pub decreases-loop-p : goal.decreases-loop-p
decreases-loop-p l = 52 - l.from
