use Rattle.std.proofs.Common.{◌≡◌}
use Rattle.std.specs.Prelude.{vec_capacity}
use Rattle.cstn_minset.proofs.BitLemmas.{count_below}
use Rattle.cstn_minset.proofs.GatherLemmas.{AreAddedBut}
use Rattle.cstn_minset.proofs.gather.add_slots_above.Given as goal

abbrev pub invariant-loop-i : goal.invariant-loop-i
invariant-loop-i l = record {
  added : AreAddedBut l.page.records.items l.sought.floor l.sought.marking l.fn.found.items l.found.items l.marking l.rest;
  room : vec_capacity l.found ≡ vec_capacity l.fn.found;
}

abbrev pub decreases-loop-i : goal.decreases-loop-i
decreases-loop-i l = count_below l.rest 64
