use Rattle.std.proofs.Common.{◌≡◌, ◌≤◌, ◌++◌, length, take, drop}
use Rattle.std.specs.Prelude.{vec_capacity}
use Rattle.cstn_log.specs.Entries.{the_entries}
use Rattle.cstn_log.specs.Cuts.{rank, cut, cut_from}
use Rattle.cstn_log.proofs.StepLemmas.{AreRanks}
use Rattle.cstn_log.proofs.cutting.cut.Given as goal

abbrev pub invariant-loop-k : goal.invariant-loop-k
invariant-loop-k l = record {
  end : l.k-end ≡ length l.marks;
  ranks : AreRanks l.marks l.places.items l.k;
  size : length l.steps.items ≡ rank l.marks l.k;
  at_most : length l.steps.items ≤ l.k;
  place_room : vec_capacity l.fn.places ≤ vec_capacity l.places;
  step_room : vec_capacity l.fn.steps ≤ vec_capacity l.steps;
  reach : the_entries l.steps.items ++ cut_from l.marks l.k (drop l.k (the_entries (take (length l.marks) l.list.entries))) ≡ cut l.marks (the_entries (take (length l.marks) l.list.entries));
}
