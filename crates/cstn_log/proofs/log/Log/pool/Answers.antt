use Rattle.std.proofs.Common.{◌≡◌, ℕ, Some, None, get_or, subst}
use Rattle.cstn_rules.specs.declared.entries.Entry.{Entry}
use Rattle.cstn_log.specs.Entries.{State}
use Rattle.cstn_log.specs.Kept.{AreStored, IsIdAt}
use Rattle.cstn_log.proofs.log.Log.pool.Goals as goal

pub returns-clause-held : goal.returns-clause-held
returns-clause-held c =
    rw c.pool.ensures.pool (subst (λ (v : State). AreStored c.self.inside.list.pool.slots v.entries v.ids) c.self.view_is c.pool.ensures.stored)

pub returns-clause-exactly : goal.returns-clause-exactly
returns-clause-exactly c =
    rw c.pool.ensures.pool
    (subst (λ (v : State). (s : ℕ) (e : ℕ × Entry) → get_or c.self.inside.list.pool.slots s None ≡ Some e → (k : ℕ) × IsIdAt v.ids s e.0 k) c.self.view_is
    c.self.invariant.kept.pooled.found)
