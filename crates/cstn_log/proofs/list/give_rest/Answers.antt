use Rattle.std.proofs.Common.{ℕ, ◌≡◌, ◌+◌, ◌<◌, suc, inr, refl, sym, subst, Some, None, Option, List, length, get_or, arith, ◌∙◌}
use Rattle.std.specs.Prelude.{slice_get}
use Rattle.std.proofs.lemmas.Option.{slice_get-get_or, slice_get-map}
use Rattle.cstn_rules.specs.declared.entries.Entry.{Entry}
use Rattle.cstn_pool.specs.declared.slot_id.SlotId.{SlotId}
use Rattle.cstn_log.specs.Lists.{id_in, ids_in}
use Rattle.cstn_log.proofs.KeptLemmas.{value_held}
use Rattle.cstn_log.proofs.LeftLemmas.{left_all, left_kept, left_given}
use Rattle.cstn_log.proofs.ListedLemmas.{id_read}
use Rattle.cstn_log.proofs.list.give_rest.Goals.{then-not-marks-k, else-not-marks-k}
use Rattle.cstn_log.proofs.list.give_rest.Goals as goal

-- the id of the slot at place k stands there
id_there : (pool : List (Option (ℕ × Entry))) (slots : List ℕ) (k : ℕ) → k < length slots → slice_get (ids_in pool slots) k ≡ Some (id_in pool (get_or slots k 0))
id_there pool slots k low = slice_get-map (id_in pool) slots k ∙ rw (slice_get-get_or slots k 0 low) refl

pub loop-k-init : goal.loop-k-init
loop-k-init c = record { left = left_all _ _ _; births = refl }

pub id-id-requires : goal.id-id-requires
id-id-requires c =
    let k = c.loop-k.k in
    let slot = get_or c.args.slots.now k 0 in
    let there = id_there c.args.pool.now.slots c.args.slots.now k c.loop-k-test.true in
    let held = c.requires.pooled.1.held k (id_in c.args.pool.now.slots slot) there in
    rw (c.loop-k.invariant.left.stays k (id_in c.args.pool.now.slots slot) there (inr (omega arith)) ∙ held.3) refl

pub loop-k-preserved : goal.loop-k-preserved
loop-k-preserved c =
    let k = c.loop-k.k in
    let marks = c.args.marks.now in
    let old = c.args.pool.now.slots in
    let was = c.loop-k.invariant in
    let next : k + 1 ≡ suc k = omega arith in
    let ids = ids_in old c.args.slots.now in
    elim c.if-not-marks-k.branch [
      | then-not-marks-k w ↦
          let p = c.requires.pooled in
          let slot = get_or c.args.slots.now k 0 in
          let id = w.id-id.result in
          let at = id_there old c.args.slots.now k c.loop-k-test.true in
          let same : id_in c.loop-k.pool.slots slot ≡ id_in old slot = rw (was.left.stays k (id_in old slot) at (inr (omega arith))) refl in
          let id_is : id_in old slot ≡ id = sym same ∙ id_read c.loop-k.pool.slots slot id w.id-id.ensures.birth.0 w.id-id.ensures.slot w.id-id.ensures.birth.1 in
          let there : slice_get ids k ≡ Some id = subst (λ (y : SlotId). slice_get ids k ≡ Some y) id_is at in
          let held = p.1.held k id there in
          let now : get_or c.loop-k.pool.slots id.slot None ≡ Some (id.birth, held.1) = was.left.stays k id there (inr (omega arith)) ∙ held.3 in
          let value = w.give.ensures.value ∙ value_held c.loop-k.pool.slots id.slot id.birth held.1 now in
          let given = w.give.ensures.given (rw value refl) in
          record {
            left = rw (w.pool-is, given, next) (left_given marks _ p.0 ids k id old c.loop-k.pool.slots p.1 there w.if-not-marks-k.true was.left);
            births = rw (w.pool-is, given) was.births;
          }
      | else-not-marks-k w ↦
          record {
            left = rw (w.pool-is, next) (left_kept marks ids k old c.loop-k.pool.slots w.if-not-marks-k.false was.left);
            births = rw w.pool-is was.births;
          }
    ]

pub returns : goal.returns
returns c =
    let all : c.loop-k.k ≡ length c.args.slots.now = omega (arith, c.loop-k-test.false, c.loop-k.auto.k-end) in
    record {
      left = rw (← all) c.loop-k.invariant.left;
      births = c.loop-k.invariant.births;
    }
