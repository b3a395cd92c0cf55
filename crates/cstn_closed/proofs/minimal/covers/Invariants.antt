use Rattle.cstn_label.specs.Read.{the_bound}
use Rattle.cstn_closed.proofs.CoverLemmas.{IsUncovered}
use Rattle.cstn_closed.proofs.minimal.covers.Given as goal

abbrev pub invariant-loop-place : goal.invariant-loop-place
invariant-loop-place l = IsUncovered l.list (the_bound l.r) l.place
