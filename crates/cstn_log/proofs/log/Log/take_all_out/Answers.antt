use Rattle.std.proofs.Common.{◌<◌, subst}
use Rattle.cstn_pool.specs.declared.slot_id.SlotId.{SlotId}
use Rattle.cstn_log.specs.Entries.{State, HasId}
use Rattle.cstn_log.proofs.log.Log.take_all_out.Goals as goal

pub returns-clause-born : goal.returns-clause-born
returns-clause-born c =
    subst (λ (v : State). (id : SlotId) → HasId v.ids id → id.birth < v.births) c.self.view_is
    (λ id has. c.self.invariant.kept.pooled.before has.0 id has.1)
