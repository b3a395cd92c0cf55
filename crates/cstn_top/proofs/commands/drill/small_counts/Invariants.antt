use Rattle.std.proofs.Common.{◌≡◌, ◌+◌}
use Rattle.cstn_top.specs.commands.Drill.{unrefuted}
use Rattle.cstn_top.proofs.commands.drill.small_counts.Given as goal

abbrev pub invariant-loop-i : goal.invariant-loop-i
invariant-loop-i l = record {
  yes : l.counts.yes ≡ unrefuted l.number l.i;
  all : l.counts.yes + l.counts.no ≡ l.i;
  differ : l.counts.differ ≡ 0;
}
