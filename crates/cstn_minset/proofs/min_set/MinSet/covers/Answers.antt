use Rattle.cstn_minset.proofs.CoverLemmas.{one_for_each}
use Rattle.cstn_minset.proofs.SetLemmas.{covers_as}
use Rattle.cstn_minset.proofs.min_set.MinSet.covers.Goals as goal

pub returns-clause-covers : goal.returns-clause-covers
returns-clause-covers c = rw c.is_some.ensures (covers_as c.cover.result c.args.self.now.table c.args.b.now c.cover.ensures.cover c.cover.ensures.none)

pub returns-clause-one_for_each : goal.returns-clause-one_for_each
returns-clause-one_for_each c = λ s t e f. one_for_each c.args.self.now.nodes c.args.self.now.table s t e f c.cover.ensures.minimal
