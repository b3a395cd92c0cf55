use Rattle.std.proofs.Common.{◌≤◌, map}
use Rattle.cstn_label.specs.Read.{the_bound}
use Rattle.cstn_closed.proofs.MarkingLemmas.{AreMarkings}
use Rattle.cstn_closed.proofs.marks.Marking.of.Given as goal

abbrev pub invariant-loop-index : goal.invariant-loop-index
invariant-loop-index l = record {
  upto : l.index ≤ 52;
  lists : AreMarkings l.index (map the_bound l.bounds) l.lists.items;
}
