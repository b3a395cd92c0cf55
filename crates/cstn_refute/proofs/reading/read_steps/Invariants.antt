use Rattle.std.proofs.Common.{◌≡◌, ◌≤◌, [], length, map}
use Rattle.std.specs.List.{All}
use Rattle.cstn_net.specs.Limits.{most_load}
use Rattle.cstn_rules.specs.Read.{the_entry}
use Rattle.cstn_refute.specs.Refutations.{IsStep}
use Rattle.cstn_text.specs.Parts.{parts_at}
use Rattle.cstn_text.specs.Listings.{told_after}
use Rattle.cstn_refute.specs.Texts.{step_lines}
use Rattle.cstn_refute.proofs.reading.read_steps.Given as goal

abbrev pub invariant-loop-line : goal.invariant-loop-line
invariant-loop-line l = record {
  told : told_after (step_lines l.names) l.load (map the_entry l.steps.items) (parts_at 10 l.left).0 (parts_at 10 l.left).1 ≡ told_after (step_lines l.names) l.load [] (parts_at 10 l.bytes).0 (parts_at 10 l.bytes).1;
  few : length l.steps.items ≤ most_load;
  each : All IsStep l.steps.items;
}

abbrev pub decreases-loop-line : goal.decreases-loop-line
decreases-loop-line l = length l.left
