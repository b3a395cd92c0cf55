use Rattle.std.proofs.Common.{◌≡◌, ◌-◌, ◌≤◌, [], length}
use Rattle.cstn_markup.specs.Tokens.{tail_at}
use Rattle.cstn_markup.proofs.Tails.{ended}
use Rattle.cstn_markup.proofs.tags.tail_at.Given as goal

abbrev pub invariant-loop-closed : goal.invariant-loop-closed
invariant-loop-closed l = record {
  few : length l.seen ≤ 32;
  same : ended [] (tail_at 32 l.behind) ≡ ended l.seen (tail_at (32 - length l.seen) l.rest);
}

abbrev pub decreases-loop-closed : goal.decreases-loop-closed
decreases-loop-closed l = 32 - length l.seen
