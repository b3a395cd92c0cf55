use Rattle.std.proofs.Common.{length, arith, refl, ◌∙◌, ap, length-set}
use Rattle.cstn_pool.specs.declared.slot_id.SlotId.{SlotId}
use Rattle.cstn_rules.specs.declared.entries.Entry.{Entry}
use Rattle.cstn_log.proofs.KeptLemmas.{entry_with, tabled_empty}
use Rattle.cstn_log.proofs.PutLemmas.{place_free, place_inside, place_birth, place_uncovered, place_step}
use Rattle.cstn_log.proofs.putting.place_all.Goals as goal

abbrev none : SlotId
none = record { slot = 0; birth = 0 }

pub loop-k-init : goal.loop-k-init
loop-k-init c = record { end = omega (arith, c.len-k-end.ensures.len, c.len-k-end.ensures.ids); tabled = tabled_empty c.args.minimal.now.table c.requires.empty; room = refl; nodes = refl }

pub place-requires-clause-uncovered : goal.place-requires-clause-uncovered
place-requires-clause-uncovered c =
    let k = c.loop-k.k in
    let p = c.requires.pooled in
    let e : Entry = record { bound = c.bound.result; why = c.bound.ensures.entry.why } in
    let at' = entry_with c.args.list.now.entries k c.bound.result c.bound.ensures in
    place_uncovered p.0 p.1 c.args.list.now.entries c.args.list.now.ids c.loop-k.minimal.table k c.id.result p.2 c.loop-k.invariant.tabled c.id.ensures e c.requires.new at'

pub place-requires-clause-node : goal.place-requires-clause-node
place-requires-clause-node c =
    let k = c.loop-k.k in
    let e : Entry = record { bound = c.bound.result; why = c.bound.ensures.entry.why } in
    let at' = entry_with c.args.list.now.entries k c.bound.result c.bound.ensures in
    rw c.loop-k.invariant.nodes (c.requires.nodes k e at')

pub place-requires-clause-slot : goal.place-requires-clause-slot
place-requires-clause-slot c =
    let k = c.loop-k.k in
    let p = c.requires.pooled in
    let inside = place_inside p.0 p.1 c.args.list.now.entries c.args.list.now.ids c.loop-k.minimal.table k c.id.result p.2 c.loop-k.invariant.tabled c.id.ensures in
    omega (arith, inside, p.3, c.loop-k.invariant.room)

pub place-requires-clause-free : goal.place-requires-clause-free
place-requires-clause-free c =
    let k = c.loop-k.k in
    let p = c.requires.pooled in
    place_free p.0 p.1 c.args.list.now.entries c.args.list.now.ids c.loop-k.minimal.table k c.id.result p.2 c.loop-k.invariant.tabled c.id.ensures

pub place-requires-clause-birth : goal.place-requires-clause-birth
place-requires-clause-birth c =
    let k = c.loop-k.k in
    let p = c.requires.pooled in
    place_birth p.0 p.1 c.args.list.now.entries c.args.list.now.ids c.loop-k.minimal.table k c.id.result p.2 c.loop-k.invariant.tabled c.id.ensures

pub loop-k-preserved : goal.loop-k-preserved
loop-k-preserved c =
    let k = c.loop-k.k in
    let p = c.requires.pooled in
    let was = c.loop-k.invariant in
    let e : Entry = record { bound = c.bound.result; why = c.bound.ensures.entry.why } in
    let at' = entry_with c.args.list.now.entries k c.bound.result c.bound.ensures in
    let placed = c.place.ensures.placed in
    let step = place_step p.0 p.1 c.args.list.now.entries c.args.list.now.ids c.loop-k.minimal.table k c.id.result p.2 was.tabled c.id.ensures c.domination_is_an_order.ensures.transitive e placed.0 at' (omega (arith, p.3, was.room)) placed.1 in
    record {
      end = was.end;
      tabled = rw placed.2 step;
      room = ap (λ v. length v.table) placed.2 ∙ length-set placed.0 _ _ ∙ placed.1.size ∙ was.room;
      nodes = ap (λ v. v.nodes) placed.2 ∙ was.nodes;
    }
