use Rattle.std.proofs.Common.{◌+◌, ◌*◌, ◌≤◌, length}
use Rattle.std.specs.List.{flat_map, range_with_len}
use Rattle.cstn_lift.specs.Read.{the_labelled}
use Rattle.cstn_history.specs.Read.{the_history}
use Rattle.cstn_history.specs.Handed.{AreAddedBehind, added_for}
use Rattle.cstn_history.proofs.adding.add_kind.Given as goal

abbrev pub invariant-loop-x : goal.invariant-loop-x
invariant-loop-x l = record {
  adds : AreAddedBehind l.fresh l.initial.added.items l.added.items (flat_map (added_for (the_labelled l.network) (the_history l.history) l.kind) (range_with_len 0 l.x));
  few : length l.added.items ≤ length l.initial.added.items + 2 * l.x;
}
