use Rattle.std.proofs.Common.{◌≡◌, ◌∙◌, ℕ, true, Some, length, map, arith, refl, ap, sym, subst}
use Rattle.std.specs.Prelude.{slice_get}
use Rattle.std.proofs.lemmas.Option.{slice_get-map}
use Rattle.cstn_rules.specs.declared.entries.Entry.{Entry}
use Rattle.cstn_rules.specs.Read.{the_entry}
use Rattle.cstn_log.specs.Cuts.{PremisesMarked, IsClosedUnder, is_place_marked, replaced, chosen, cut}
use Rattle.cstn_log.specs.Entries.{the_entries}
use Rattle.cstn_log.specs.Kept.{AreLeft, renewed}
use Rattle.cstn_log.specs.Lists.{Listing, IsFiled, placed, stored_in, ids_in}
use Rattle.cstn_log.proofs.ChoiceLemmas.{rank_upto, length_chosen, chosen_comes}
use Rattle.cstn_log.proofs.LeftLemmas.{renewed_cut}
use Rattle.cstn_log.proofs.ListedLemmas.{of_rule, listing, listed_length, held_few, filed_apart, chosen_apart, chosen_map, slots_kept, placed_kept, stored_left, ids_left, held_left}
use Rattle.cstn_log.proofs.PutLemmas.{cut_earlier}
use Rattle.cstn_log.proofs.StepLemmas.{entry_read}
use Rattle.cstn_log.proofs.list.EntryList.keep.Goals as goal

pub give_rest-requires-clause-size : goal.give_rest-requires-clause-size
give_rest-requires-clause-size c =
    rw c.deref.ensures.value (c.requires.size ∙ listed_length c.self.inside.places.items c.self.inside.slots.items c.self.inside.pool c.self.inside.cap c.args.self.now c.self.view_is c.self.invariant.held)

pub choose-requires : goal.choose-requires
choose-requires c =
    c.requires.size ∙ listed_length c.self.inside.places.items c.self.inside.slots.items c.self.inside.pool c.self.inside.cap c.args.self.now c.self.view_is c.self.invariant.held

pub write_places-requires-clause-inside : goal.write_places-requires-clause-inside
write_places-requires-clause-inside c = λ k s there.
    let from = chosen_comes c.args.marks.now c.self.inside.slots.items k s (rw (c.deref-2.ensures.value, c.choose.ensures.chosen) at there) in
    c.self.invariant.filed.inside from.0 s from.1

pub write_places-requires-clause-apart : goal.write_places-requires-clause-apart
write_places-requires-clause-apart c =
    rw (c.deref-2.ensures.value, c.choose.ensures.chosen) (chosen_apart c.args.marks.now c.self.inside.slots.items (filed_apart c.self.inside.places.items c.self.inside.slots.items c.self.invariant.filed))

pub write_places-requires-clause-few : goal.write_places-requires-clause-few
write_places-requires-clause-few c =
    let M = c.args.marks.now in
    let slots = c.self.inside.slots.items in
    omega (arith, ap length c.deref-2.ensures.value, ap length c.choose.ensures.chosen, length_chosen M slots, rank_upto M (length slots), held_few c.self.inside.pool.slots slots c.self.invariant.held, c.self.invariant.size, c.self.invariant.few)

closed : (c : goal.After-write_places) → IsClosedUnder c.args.marks.now (the_entries (map (placed c.self.inside.places.items) (stored_in c.self.inside.pool.slots c.self.inside.slots.items)))
closed c = subst (λ (v : Listing). IsClosedUnder c.args.marks.now (the_entries v.entries)) (sym c.self.view_is) c.requires.closed

premises : (c : goal.After-write_places) (k : ℕ) (e : Entry) → slice_get (stored_in c.self.inside.pool.slots c.self.inside.slots.items) k ≡ Some e → is_place_marked c.args.marks.now k ≡ true → PremisesMarked c.args.marks.now (replaced c.self.inside.places.items e.why)
premises c k e there marked =
    let S = stored_in c.self.inside.pool.slots c.self.inside.slots.items in
    let P = c.self.inside.places.items in
    closed c k (the_entry (placed P e)) (entry_read (map (placed P) S) k (placed P e) (slice_get-map (placed P) S k ∙ rw there refl)) marked

left : (c : goal.After-write_places) → AreLeft c.args.marks.now (ids_in c.self.inside.pool.slots c.self.inside.slots.items) (length c.self.inside.slots.items) c.self.inside.pool.slots c.give_rest.new.pool.slots
left c = rw c.deref.ensures.value at c.give_rest.ensures.left

refiled : (c : goal.After-write_places) → IsFiled c.write_places.new.places.items (chosen c.args.marks.now c.self.inside.slots.items)
refiled c = rw (c.deref-2.ensures.value, c.choose.ensures.chosen) at c.write_places.ensures.filed

stored_is : (c : goal.After-write_places) → stored_in c.give_rest.new.pool.slots (chosen c.args.marks.now c.self.inside.slots.items) ≡ chosen c.args.marks.now (stored_in c.self.inside.pool.slots c.self.inside.slots.items)
stored_is c = stored_left c.self.inside.pool.slots c.give_rest.new.pool.slots c.self.inside.slots.items c.args.marks.now c.self.invariant.held (left c)

whole : (c : goal.After-write_places) → map (placed c.write_places.new.places.items) (chosen c.args.marks.now (stored_in c.self.inside.pool.slots c.self.inside.slots.items)) ≡ chosen c.args.marks.now (map (renewed c.args.marks.now) (map (placed c.self.inside.places.items) (stored_in c.self.inside.pool.slots c.self.inside.slots.items)))
whole c =
    chosen_map c.args.marks.now (placed c.write_places.new.places.items) (placed c.self.inside.places.items) (renewed c.args.marks.now) (stored_in c.self.inside.pool.slots c.self.inside.slots.items) (λ k e there marked.
    ap (of_rule e.bound) (placed_kept _ _ _ c.self.invariant.filed _ (refiled c) e.why (c.self.invariant.named k e there) (premises c k e there marked)))

pub invariant_of-self : goal.invariant_of-self
invariant_of-self c =
    let S = stored_in c.self.inside.pool.slots c.self.inside.slots.items in
    let slots = c.self.inside.slots.items in
    let P = c.self.inside.places.items in
    let M = c.args.marks.now in
    let is = c.self.invariant in
    let chose : c.choose.new.values.items ≡ chosen M slots = c.choose.ensures.chosen in
    let steps : the_entries (map (placed c.write_places.new.places.items) (chosen M S)) ≡ cut M (the_entries (map (placed P) S)) = ap the_entries (whole c) ∙ renewed_cut M (map (placed P) S) in
    record {
      filed = rw chose (refiled c);
      named = rw (chose, stored_is c) (λ k e there.
          let from = chosen_comes M S k e there in
          slots_kept M P slots is.filed e.why (is.named from.0 e from.1) (premises c from.0 e from.1 from.2));
      earlier = rw (chose, stored_is c, steps) (cut_earlier M (the_entries (map (placed P) S)) is.earlier (closed c));
      held = rw chose (held_left c.self.inside.pool.slots c.give_rest.new.pool.slots slots M is.held (left c));
      size = (left c).size ∙ is.size;
      upto = omega (arith, c.write_places.ensures.size, is.upto);
      few = is.few;
      for_slots_is = omega (arith, is.for_slots_is, c.choose.ensures.room);
      for_places_is = omega (arith, is.for_places_is, c.write_places.ensures.room);
    }

pub returns-clause-kept : goal.returns-clause-kept
returns-clause-kept c =
    let M = c.args.marks.now in
    let ids_is = ids_left c.self.inside.pool.slots c.give_rest.new.pool.slots c.self.inside.slots.items M c.self.invariant.held (left c) in
    subst (λ (v : Listing). listing c.write_places.new.places.items c.choose.new.values.items c.give_rest.new.pool c.self.inside.cap
    ≡ record { entries = chosen M (map (renewed M) v.entries); ids = chosen M v.ids; cap = v.cap; pool = c.give_rest.new.pool }) c.self.view_is
    (rw (c.choose.ensures.chosen, stored_is c, whole c, ids_is) refl)
