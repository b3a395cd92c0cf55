use Rattle.cstn_minset.specs.Passes.{IsEarliestSlot, sought_kind}
use Rattle.cstn_minset.proofs.PassLemmas.{IsUpto}
use Rattle.cstn_minset.proofs.passes.earliest_on_page.Given as goal

abbrev pub invariant-loop-kept : goal.invariant-loop-kept
invariant-loop-kept l = IsEarliestSlot (IsUpto l.births (sought_kind l.sought) l.low l.page.head l.kept-items l.kept-index) l.best
