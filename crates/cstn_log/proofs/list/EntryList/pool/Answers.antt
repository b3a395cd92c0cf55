use Rattle.std.proofs.Common.{subst}
use Rattle.cstn_log.specs.Lists.{Listing}
use Rattle.cstn_log.specs.Kept.{AreStored}
use Rattle.cstn_log.proofs.ListedLemmas.{pool_stores}
use Rattle.cstn_log.proofs.list.EntryList.pool.Goals as goal

pub returns-clause-stored : goal.returns-clause-stored
returns-clause-stored c =
    subst (λ (v : Listing). AreStored v.pool.slots v.entries v.ids) c.self.view_is
    (pool_stores c.self.inside.places.items c.self.inside.slots.items c.self.inside.pool.slots c.self.invariant.filed c.self.invariant.named c.self.invariant.held)
