use Rattle.std.proofs.Common.{◌≡◌, ◌≤◌, [], length, map}
use Rattle.cstn_label.specs.Read.{the_bound}
use Rattle.cstn_net.specs.Limits.{most_load}
use Rattle.cstn_text.specs.Parts.{parts_at}
use Rattle.cstn_text.specs.Listings.{told_after}
use Rattle.cstn_closed.specs.Texts.{bound_lines}
use Rattle.cstn_closed.proofs.reading.read_bounds.Given as goal

abbrev pub invariant-loop-line : goal.invariant-loop-line
invariant-loop-line l = record {
  told : told_after (bound_lines l.names) l.load (map the_bound l.bounds.items) (parts_at 10 l.left).0 (parts_at 10 l.left).1 ≡ told_after (bound_lines l.names) l.load [] (parts_at 10 l.bytes).0 (parts_at 10 l.bytes).1;
  few : length l.bounds.items ≤ most_load;
}

abbrev pub decreases-loop-line : goal.decreases-loop-line
decreases-loop-line l = length l.left
