use Rattle.std.proofs.Common.{◌≡◌, ℕ, ◌+◌, ◌<◌, ◌≤◌, ◌^◌, [], length, get_or, vec_capacity}
use Rattle.cstn_minset.proofs.places.Places.clear.Given as goal

abbrev pub invariant-loop-head : goal.invariant-loop-head
invariant-loop-head l = record {
  none : l.self-inside.used.items ≡ [];
  slots : l.self-inside.slots ≡ l.fn.self.slots;
  count : l.self-inside.slots + length l.self-inside.ends.items ≡ length l.fn.self.places;
  end : l.head-end ≡ length l.self-inside.ends.items;
  room : l.self-inside.slots ≤ vec_capacity l.self-inside.used;
  small : length l.fn.self.places < 2 ^ 32;
  home : (h : ℕ) → h < l.head → get_or l.self-inside.ends.items h 0 ≡ l.self-inside.slots + h;
}
