use Rattle.std.proofs.Common.{◌≡◌, length}
use Rattle.std.specs.Prelude.{vec_capacity}
use Rattle.cstn_minset.specs.Pages.{numbered_pages}
use Rattle.cstn_minset.proofs.GatherLemmas.{IsGathered}
use Rattle.cstn_minset.proofs.NumberLemmas.{left}
use Rattle.cstn_minset.proofs.gather.slots_above.Given as goal

abbrev pub invariant-loop-place : goal.invariant-loop-place
invariant-loop-place l = record {
  walk : IsGathered l.rows l.fn.node.0 l.sought.floor l.sought.marking l.found.items l.place;
  room : vec_capacity l.found ≡ vec_capacity l.fn.found;
}

abbrev pub decreases-loop-place : goal.decreases-loop-place
decreases-loop-place l = left (length (numbered_pages l.rows)) l.place
