use Rattle.cstn_minset.specs.Passes.{IsEarliestSlot, sought_kind}
use Rattle.cstn_minset.proofs.PassLemmas.{AreUpto}
use Rattle.cstn_minset.proofs.passes.earliest.Given as goal

abbrev pub invariant-loop-page : goal.invariant-loop-page
invariant-loop-page l = IsEarliestSlot (AreUpto l.births (sought_kind l.sought) l.low l.page-items l.page-index) l.best
