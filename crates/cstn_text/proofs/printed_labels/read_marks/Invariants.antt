use Rattle.std.proofs.Common.{◌≡◌, length}
use Rattle.cstn_text.specs.PrintedLabels.{marks_read, nothing_read}
use Rattle.cstn_text.specs.Readings.{the_reading}
use Rattle.cstn_text.proofs.printed_labels.read_marks.Given as goal

abbrev pub invariant-loop-b : goal.invariant-loop-b
invariant-loop-b l = marks_read (the_reading l.reading) l.left ≡ marks_read nothing_read l.bytes

abbrev pub decreases-loop-b : goal.decreases-loop-b
decreases-loop-b l = length l.left
