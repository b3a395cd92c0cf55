use Rattle.std.proofs.Common.{ap}
use Rattle.cstn_minset.proofs.SetLemmas.{places}
use Rattle.cstn_minset.proofs.StoredLemmas.{none_stored, determined, stored_as_told}
use Rattle.cstn_minset.proofs.min_set.MinSet.start.Goals as goal

pub invariant_of-result : goal.invariant_of-result
invariant_of-result c = rw c.in_ok-births.ensures (stored_as_told _ _ _ _ (none_stored c.in_ok-rows.rows _ _ c.in_ok-rows.ensures.size.0 c.in_ok-rows.ensures.size.1 c.in_ok-rows.ensures.empty))

pub returns : goal.returns
returns c = record {
  empty = ap (places c.args.nodes) (rw c.in_ok-births.ensures (determined _ _ _ _ (none_stored c.in_ok-rows.rows c.args.nodes c.args.capacity c.in_ok-rows.ensures.size.0 c.in_ok-rows.ensures.size.1 c.in_ok-rows.ensures.empty)));
}
