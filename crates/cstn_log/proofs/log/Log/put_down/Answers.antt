use Rattle.std.proofs.Common.{ℕ, ◌≡◌, ◌<◌, ◌≤◌, true, length, arith, sym, subst, rules, SFits, w32}
use Rattle.std.specs.Prelude.{Some, slice_get}
use Rattle.std.proofs.lemmas.Int.{to_z-of_z}
use Rattle.std.proofs.lemmas.List.Elements.{All-weaker}
use Rattle.cstn_label.specs.declared.bounds.Bound.{Bound}
use Rattle.cstn_rules.specs.declared.entries.Entry.{Entry}
use Rattle.cstn_minset.specs.Sets.{IsPlaced, IsSoughtAbove}
use Rattle.cstn_log.specs.Agendas.{has_place}
use Rattle.cstn_log.specs.Entries.{State, IsLive}
use Rattle.cstn_log.specs.Kept.{IsIdAt}
use Rattle.cstn_log.proofs.KeptLemmas.{few, placed_live}
use Rattle.cstn_log.proofs.log.Log.put_down.Goals as goal

pub slots_above-requires : goal.slots_above-requires
slots_above-requires c = record { room = omega (arith, c.self.invariant.kept.room, c.self.invariant.room.size, c.self.invariant.room.for_slots) }

pub put_down-requires-clause-held : goal.put_down-requires-clause-held
put_down-requires-clause-held c =
    let table = c.self.inside.minimal.table in
    let fits : SFits w32 c.args.floor = search rules in
    rw c.deref.ensures.value
    (All-weaker (λ s. (e : ℕ × Bound) × IsPlaced table s e × IsSoughtAbove c.args.x.0 c.args.floor c.args.marking e.1)
    (λ s. (birth : ℕ) × (k : ℕ) × IsIdAt c.self.inside.list.ids s birth k)
    (λ s from. let f = c.self.invariant.kept.tabled.placed s from.0 from.1 in (from.0.0, f.0, f.2)) c.slots_above.new.found.items
    (rw (to_z-of_z w32 c.args.floor fits) at c.slots_above.ensures.only))

pub put_down-requires-clause-room : goal.put_down-requires-clause-room
put_down-requires-clause-room c =
    let r = c.self.invariant.room in
    let low = few _ _ _ _ c.self.invariant.kept.pooled in
    let inside = subst (λ (v : State). c.args.upto < length v.entries) (sym c.self.view_is) c.requires.upto in
    omega (arith, inside, c.self.invariant.kept.size, low, r.size, r.for_places)

pub invariant_of-self : goal.invariant_of-self
invariant_of-self c =
    let r = c.self.invariant.room in
    record {
      kept = c.self.invariant.kept;
      room = record {
        size = r.size;
        for_marks = r.for_marks;
        for_slots = omega (arith, r.for_slots, c.slots_above.ensures.capacity);
        for_places = omega (arith, r.for_places, c.put_down.ensures.size);
        few = r.few;
      };
    }

pub returns-clause-added : goal.returns-clause-added
returns-clause-added c =
    let fits : SFits w32 c.args.floor = search rules in
    let all = rw (to_z-of_z w32 c.args.floor fits) at c.slots_above.ensures.all in
    subst (λ (v : State). (k : ℕ) (e : Entry) → slice_get v.entries k ≡ Some e → IsLive v.entries k → k ≤ c.args.upto
    → IsSoughtAbove c.args.x.0 c.args.floor c.args.marking e.bound → has_place c.put_down.new.agenda k ≡ true) c.self.view_is
    (λ k e there live low sought.
    let placed = placed_live _ _ _ _ _ _ k e c.self.invariant.kept there live in
    c.put_down.ensures.added placed.0.slot placed.0.birth k
    (rw c.deref.ensures.value (all placed.0.slot (placed.0.birth, e.bound) placed.2 sought)) (record { there = placed.1 }) low)
