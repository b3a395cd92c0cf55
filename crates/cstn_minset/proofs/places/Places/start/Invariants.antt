use Rattle.std.proofs.Common.{◌≡◌, ℕ, ◌+◌, ◌<◌, length, get_or}
use Rattle.cstn_minset.proofs.places.Places.start.Given as goal

abbrev pub invariant-loop-head : goal.invariant-loop-head
invariant-loop-head l = record {
  size : length l.ends.items ≡ l.head;
  home : (h : ℕ) → h < length l.ends.items → get_or l.ends.items h 0 ≡ l.slots + h;
}
