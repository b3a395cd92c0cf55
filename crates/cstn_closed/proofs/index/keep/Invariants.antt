use Rattle.std.proofs.Common.{◌≡◌, length}
use Rattle.cstn_closed.proofs.KeepLemmas.{AreKeptUpto}
use Rattle.cstn_closed.proofs.index.keep.Given as goal

abbrev pub invariant-loop-place : goal.invariant-loop-place
invariant-loop-place l = record {
  wide : length l.minimal.lists.items ≡ length l.fn.minimal.lists.items;
  upto : AreKeptUpto l.bounds l.place l.minimal.lists.items l.fresh.items;
}
