use Rattle.std.proofs.Common.{◌≡◌, ℕ, Some, subst}
use Rattle.std.specs.Prelude.{slice_get}
use Rattle.cstn_label.specs.declared.bounds.Bound.{Bound}
use Rattle.cstn_pool.specs.declared.slot_id.SlotId.{SlotId}
use Rattle.cstn_rules.specs.declared.entries.Entry.{Entry}
use Rattle.cstn_minset.specs.Sets.{IsPlaced}
use Rattle.cstn_log.specs.Entries.{State, IsLive}
use Rattle.cstn_log.specs.Kept.{IsIdAt}
use Rattle.cstn_log.proofs.log.Log.minimal.Goals as goal

pub returns-clause-live : goal.returns-clause-live
returns-clause-live c =
    subst (λ (v : State). (k : ℕ) (id : SlotId) (e : Entry) → slice_get v.ids k ≡ Some id → slice_get v.entries k ≡ Some e → IsLive v.entries k → IsPlaced c.self.inside.minimal.table id.slot (id.birth, e.bound)) c.self.view_is c.self.invariant.kept.tabled.live

pub returns-clause-exactly : goal.returns-clause-exactly
returns-clause-exactly c =
    subst (λ (v : State). (s : ℕ) (b : ℕ × Bound) → IsPlaced c.self.inside.minimal.table s b → (k : ℕ) × (e : Entry) × IsIdAt v.ids s b.0 k × (slice_get v.entries k ≡ Some e) × IsLive v.entries k × (e.bound ≡ b.1)) c.self.view_is c.self.invariant.kept.tabled.placed
