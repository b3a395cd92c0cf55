use Rattle.std.proofs.Common.{◌≡◌, ℕ, ◌≤◌, length}
use Rattle.std.specs.Prelude.{None}
use Rattle.cstn_minset.specs.Sets.{entry_at, AllBornBefore}
use Rattle.tests_growth.proofs.minset.add_all.Given as goal

abbrev pub invariant-loop-turn : goal.invariant-loop-turn
invariant-loop-turn g l = record {
  nodes : l.set.nodes ≡ 4;
  size : length l.set.table ≡ 16;
  free : (u : ℕ) → l.turn ≤ u → entry_at l.set.table u ≡ None;
  born : AllBornBefore l.set.table l.turn;
}
