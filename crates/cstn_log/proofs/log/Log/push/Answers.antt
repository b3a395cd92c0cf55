use Rattle.std.proofs.Common.{◌≡◌, ◌++◌, ◌∷◌, [], ◌+◌, ◌<◌, ℕ, length, Some, None, arith, ap, subst, sym, ◌∙◌, length-set}
use Rattle.std.specs.Prelude.{slice_get}
use Rattle.std.proofs.lemmas.Option.{slice_get_within}
use Rattle.cstn_label.specs.Read.{the_bound}
use Rattle.cstn_net.specs.Read.{the_network}
use Rattle.cstn_rules.specs.declared.entries.Entry.{Entry}
use Rattle.cstn_pool.specs.declared.slot_id.SlotId.{SlotId}
use Rattle.cstn_rules.specs.Derivations.{Follows, IsDerivation}
use Rattle.cstn_log.specs.Entries.{State, the_entries, IsCoveredBy}
use Rattle.cstn_log.proofs.KeptLemmas.{few, unplaced, uncovered_there, born_before}
use Rattle.cstn_log.proofs.PushLemmas.{push_step, slot_empty}
use Rattle.cstn_log.proofs.DerivedLemmas.{follows_inside, pushed_derivation}
use Rattle.cstn_log.proofs.log.Log.push.Goals as goal

pub prove-unreachable-requires : goal.prove-unreachable-requires
prove-unreachable-requires c =
    let all = subst (λ (v : State). (k : ℕ) (e : Entry) → slice_get v.entries k ≡ Some e → e.bound.node.0 < v.nodes) c.self.view_is c.self.invariant.kept.inside in
    let points = subst (λ (n : ℕ). (k : ℕ) (e : Entry) → slice_get c.args.self.now.entries k ≡ Some e → e.bound.node.0 < n) c.requires.net all in
    let inside = follows_inside (the_network c.args.net.now) c.args.self.now.entries (length c.args.self.now.entries) c.args.e.why (the_bound c.args.e.bound) c.count-count.ensures.well_formed points c.requires.follows in
    omega (arith, c.if-prove.true, c.count-count.ensures.count, inside)

pub returns-in_err-id-clause-derivation : goal.returns-in_err-id-clause-derivation
returns-in_err-id-clause-derivation c =
    rw c.in_err-id.ensures.refused
    (subst (λ (v : State). IsDerivation (the_network c.args.net.now) (the_entries v.entries) → IsDerivation (the_network c.args.net.now) (the_entries c.self.inside.list.entries)) c.self.view_is (λ derivation. derivation))

pub place-requires-clause-uncovered : goal.place-requires-clause-uncovered
place-requires-clause-uncovered c =
    uncovered_there _ _ _ c.args.e.bound c.self.invariant.kept.tabled (subst (λ (v : State). ¬ IsCoveredBy v.entries c.args.e.bound) (sym c.self.view_is) c.requires.uncovered)

pub place-requires-clause-slot : goal.place-requires-clause-slot
place-requires-clause-slot c =
    omega (arith, slice_get_within c.self.inside.list.pool.slots c.in_ok-id.id.slot None c.in_ok-id.ensures.empty, c.self.invariant.kept.room)

pub place-requires-clause-free : goal.place-requires-clause-free
place-requires-clause-free c =
    unplaced _ _ _ c.in_ok-id.id.slot c.self.invariant.kept.tabled (slot_empty _ _ _ _ c.in_ok-id.id c.self.invariant.kept.pooled c.in_ok-id.ensures.empty)

pub place-requires-clause-birth : goal.place-requires-clause-birth
place-requires-clause-birth c =
    rw c.in_ok-id.ensures.birth (born_before _ _ _ c.self.inside.list.pool.births c.self.invariant.kept.tabled c.self.invariant.kept.pooled.before)

pub overflow_cast-place : goal.overflow_cast-place
overflow_cast-place c =
    let room = few _ _ _ _ c.self.invariant.kept.pooled in
    omega (arith, room, c.self.invariant.kept.size, c.self.invariant.room.few, c.len-place.ensures)

pub invariant_of-self-2 : goal.invariant_of-self-2
invariant_of-self-2 c =
    let id = c.in_ok-id.id in
    let more = c.in_ok-id.ensures.pushed in
    let placed = c.place.ensures.placed in
    let longer = ap (λ v. v.entries) more.2 in
    let pushed = ap (λ v. v.ids) more.2 in
    let taken = ap (λ v. v.pool) more.2 in
    let size : length c.push.new.self.pool.slots ≡ length c.self.inside.list.pool.slots = ap (λ v. length v.pool.slots) more.2 ∙ length-set c.self.inside.list.pool.slots id.slot (Some (id.birth, more.0)) in
    let uncovered = subst (λ (v : State). ¬ IsCoveredBy v.entries c.args.e.bound) (sym c.self.view_is) c.requires.uncovered in
    let nodes = ap (λ v. v.nodes) c.self.view_is in
    let room = c.self.invariant.room in
    let L = c.self.inside.list.entries in
    let follows = subst (λ (v : State). Follows (the_network c.args.net.now) (the_entries v.entries) (length v.entries) c.args.e.why (the_bound c.args.e.bound)) (sym c.self.view_is) c.requires.follows in
    let same : c.place.new.self.nodes ≡ c.self.inside.minimal.nodes = ap (λ v. v.nodes) placed.2 in
    record {
      kept = push_step c.domination_is_an_order.ensures.transitive c.self.inside.list.pool.slots c.self.inside.list.pool.births c.self.inside.minimal placed.0 L c.push.new.self.entries c.self.inside.list.ids id c.args.e more.0 c.push.new.self.pool c.place.new.self c.push.new.self.ids more.1 c.self.invariant.kept c.in_ok-id.ensures.empty c.in_ok-id.ensures.birth taken placed.1 placed.2 longer pushed uncovered (omega (arith, nodes, c.requires.net, c.if-prove.false, c.count-count.ensures.count));
      room = record {
        size = ap (λ v. v.cap) more.2 ∙ room.size ∙ sym size;
        for_marks = omega (arith, size, room.for_marks);
        for_slots = omega (arith, size, room.for_slots);
        for_places = omega (arith, size, room.for_places);
        few = omega (arith, size, room.few);
      };
    }

-- the id of a slot and a birth
abbrev the_id : ℕ → ℕ → SlotId
the_id s n = record { slot = s; birth = n }

abbrev the_state : State → ℕ → Entry → SlotId → State
the_state v births e id = record v { entries = v.entries ++ e ∷ []; ids = v.ids ++ id ∷ []; births = births }

pub returns-clause-pushed : goal.returns-clause-pushed
returns-clause-pushed c = λ _.
    let id = c.in_ok-id.id in
    let more = c.in_ok-id.ensures.pushed in
    let longer = ap (λ v. v.entries) more.2 in
    let pushed = ap (λ v. v.ids) more.2 in
    let nodes = ap (λ v. v.nodes) c.place.ensures.placed.2 in
    let cap = ap (λ v. v.cap) more.2 in
    let births = ap (λ v. v.pool.births) more.2 in
    let id_is : id ≡ record { slot = id.slot; birth = c.self.inside.list.pool.births } = ap (λ (n : ℕ). the_id id.slot n) c.in_ok-id.ensures.birth in
    (id.slot, rw (← c.self.view_is, longer, pushed, cap, nodes, births) (ap (λ (y : SlotId). the_state (record { entries = c.self.inside.list.entries; ids = c.self.inside.list.ids; births = c.self.inside.list.pool.births; cap = c.self.inside.list.cap; nodes = c.self.inside.minimal.nodes; agenda = c.self.inside.agenda }) (c.self.inside.list.pool.births + 1) c.args.e y) id_is))

pub returns-clause-derivation : goal.returns-clause-derivation
returns-clause-derivation c =
    let longer = ap (λ v. v.entries) c.in_ok-id.ensures.pushed.2 in
    let back = subst (λ (v : State). c.push.new.self.entries ≡ v.entries ++ c.args.e ∷ []) c.self.view_is longer in
    pushed_derivation (the_network c.args.net.now) c.args.self.now.entries _ c.args.e back c.requires.follows
