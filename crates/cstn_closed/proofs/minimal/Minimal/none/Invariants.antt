use Rattle.std.proofs.Common.{◌≡◌, ◌≤◌, [], length}
use Rattle.cstn_closed.specs.Minimal.{AreKept}
use Rattle.cstn_closed.proofs.minimal.Minimal.none.Given as goal

abbrev pub invariant-loop : goal.invariant-loop
invariant-loop l = record {
  upto : l.counter ≤ l.width;
  width : length l.lists.items ≡ l.counter;
  none : AreKept [] l.lists.items;
}
