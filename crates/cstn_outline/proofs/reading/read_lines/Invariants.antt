use Rattle.std.proofs.Common.{ℕ, ◌≡◌, ◌≤◌, ◌+◌, [], length}
use Rattle.cstn_text.specs.Parts.{parts_at}
use Rattle.cstn_text.specs.Listings.{told_after}
use Rattle.cstn_outline.specs.Texts.{tree_lines}
use Rattle.cstn_outline.specs.Reading.{the_lines, IsReader}
use Rattle.cstn_outline.proofs.reading.read_lines.Given as goal

abbrev pub invariant-loop-line : goal.invariant-loop-line
invariant-loop-line l = record {
  told : (load : ℕ) → told_after (tree_lines l.names) load (the_lines l.reader) (parts_at 10 l.left).0 (parts_at 10 l.left).1 ≡ told_after (tree_lines l.names) load [] (parts_at 10 l.bytes).0 (parts_at 10 l.bytes).1;
  reader : IsReader (length l.names) l.reader;
  count : length l.reader.lines.items + length l.left ≤ length l.bytes;
}

abbrev pub decreases-loop-line : goal.decreases-loop-line
decreases-loop-line l = length l.left
