use Rattle.std.proofs.Common.{◌≡◌, ◌<◌, ◌≤◌, ℕ, Some, length, get_or}
use Rattle.std.specs.Prelude.{slice_get, vec_capacity}
use Rattle.cstn_log.proofs.list.write_places.Given as goal

abbrev pub invariant-loop-k : goal.invariant-loop-k
invariant-loop-k l = record {
  written : (j s : ℕ) → j < l.k → slice_get l.slots j ≡ Some s → get_or l.places.items s 0 ≡ j;
  size : length l.places.items ≡ length l.fn.places.items;
  room : vec_capacity l.fn.places ≤ vec_capacity l.places;
}
