use Rattle.cstn_minset.proofs.SetLemmas.{IsClearing, placed_count}
use Rattle.cstn_minset.proofs.min_set.MinSet.place.Given as goal

abbrev pub invariant-loop : goal.invariant-loop
invariant-loop l = IsClearing l.b l.fn.self l.self

abbrev pub decreases-loop : goal.decreases-loop
decreases-loop l = placed_count l.self.table
