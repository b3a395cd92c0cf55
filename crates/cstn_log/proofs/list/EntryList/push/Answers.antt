use Rattle.std.proofs.Common.{◌≡◌, ◌<◌, ◌+◌, ◌++◌, ◌∷◌, [], Some, None, length, map, get_or, set, arith, refl, ap, sym, ◌∙◌, subst, length-set}
use Rattle.std.proofs.lemmas.Option.{slice_get_within, get_or_from_slice_get}
use Rattle.cstn_rules.specs.declared.entries.Entry.{Entry}
use Rattle.cstn_pool.specs.Slots.{Slots}
use Rattle.cstn_log.specs.Cuts.{PremisesBelow}
use Rattle.cstn_log.specs.Lists.{Listing, placed, stored_in}
use Rattle.cstn_log.proofs.ListedLemmas.{IsPushed, listing, listed_length, filed_more, named_more, placed_more, free_slot, stored_more, ids_more, held_more}
use Rattle.cstn_log.proofs.MarkLemmas.{more_earlier}
use Rattle.cstn_log.proofs.list.EntryList.push.Goals as goal

pub placed-requires : goal.placed-requires
placed-requires c =
    let long = listed_length c.self.inside.places.items c.self.inside.slots.items c.self.inside.pool c.self.inside.cap c.args.self.now c.self.view_is c.self.invariant.held in
    rw (c.deref.ensures.value, ← long) c.requires.premises

pub write_place-requires : goal.write_place-requires
write_place-requires c =
    let is = c.self.invariant in
    let slot = slice_get_within c.self.inside.pool.slots c.in_ok-id.id.slot None c.in_ok-id.ensures.empty in
    record { room = (omega (arith, is.upto, is.for_places_is), omega (arith, slot, is.size, is.for_places_is)) }

empty : (c : goal.After-write_place) → get_or c.self.inside.pool.slots c.in_ok-id.id.slot None ≡ None
empty c = get_or_from_slice_get c.self.inside.pool.slots c.in_ok-id.id.slot None None c.in_ok-id.ensures.empty

within : (c : goal.After-write_place) → c.in_ok-id.id.slot < length c.self.inside.pool.slots
within c = slice_get_within c.self.inside.pool.slots c.in_ok-id.id.slot None c.in_ok-id.ensures.empty

below : (c : goal.After-write_place) → PremisesBelow (length (map (placed c.self.inside.places.items) (stored_in c.self.inside.pool.slots c.self.inside.slots.items))) c.args.e.why
below c = subst (λ (v : Listing). PremisesBelow (length v.entries) c.args.e.why) (sym c.self.view_is) c.requires.premises

pushed : (c : goal.After-write_place) → IsPushed c.self.inside.places.items c.write_place.new.places.items c.self.inside.slots.items c.in_ok-id.id.slot c.args.e c.placed.result
pushed c =
    let long = listed_length c.self.inside.places.items c.self.inside.slots.items c.self.inside.pool c.self.inside.cap c.args.self.now c.self.view_is c.self.invariant.held in
    record {
      low = rw (← long) c.requires.premises;
      bound = c.placed.ensures.bound;
      why = rw c.deref.ensures.value at c.placed.ensures.why;
      free = free_slot c.self.inside.pool.slots c.self.inside.slots.items c.in_ok-id.id.slot c.in_ok-id.id.birth c.placed.result c.self.invariant.held (within c) (empty c);
      here = omega (arith, c.write_place.ensures.here, c.len-place.ensures, c.self.inside.slots.ok);
      others = c.write_place.ensures.others;
      longer = c.write_place.ensures.longer.0;
      inside = c.write_place.ensures.longer.1;
    }

whole : (c : goal.After-write_place) → map (placed c.write_place.new.places.items) (stored_in c.self.inside.pool.slots c.self.inside.slots.items ++ c.placed.result ∷ []) ≡ map (placed c.self.inside.places.items) (stored_in c.self.inside.pool.slots c.self.inside.slots.items) ++ c.args.e ∷ []
whole c = placed_more _ _ _ _ c.in_ok-id.id.slot c.args.e c.placed.result c.self.invariant.filed c.self.invariant.named (pushed c)

stored_is : (c : goal.After-write_place) → stored_in c.take.new.self.slots (c.self.inside.slots.items ++ c.in_ok-id.id.slot ∷ []) ≡ stored_in c.self.inside.pool.slots c.self.inside.slots.items ++ c.placed.result ∷ []
stored_is c =
    ap (λ (p : Slots Entry). stored_in p.slots (c.self.inside.slots.items ++ c.in_ok-id.id.slot ∷ [])) c.in_ok-id.ensures.taken
    ∙ stored_more c.self.inside.pool.slots c.self.inside.slots.items c.in_ok-id.id.slot c.in_ok-id.id.birth c.placed.result c.self.invariant.held (within c) (empty c)

pub invariant_of-self-2 : goal.invariant_of-self-2
invariant_of-self-2 c =
    let S = stored_in c.self.inside.pool.slots c.self.inside.slots.items in
    let slots = c.self.inside.slots.items in
    let P = c.self.inside.places.items in
    let N = c.write_place.new.places.items in
    let is = c.self.invariant in
    let e = c.args.e in
    let id = c.in_ok-id.id in
    let x = c.placed.result in
    let taken = c.in_ok-id.ensures.taken in
    let slots_is : c.push.new.self.items ≡ slots ++ id.slot ∷ [] = rw c.unwrap.ensures at c.push.ensures.items in
    record {
      filed = rw slots_is (filed_more P N S slots id.slot e x is.filed is.named (pushed c));
      named = rw (slots_is, stored_is c) (named_more P N S slots id.slot e x is.filed is.named (pushed c));
      earlier = rw (slots_is, stored_is c, whole c) (more_earlier (map (placed P) S) e is.earlier (below c));
      held = rw (slots_is, taken) (held_more c.self.inside.pool.slots slots id.slot id.birth x is.held (within c) (empty c));
      size = ap (λ (p : Slots Entry). length p.slots) taken ∙ length-set c.self.inside.pool.slots id.slot (Some (id.birth, x)) ∙ is.size;
      upto = c.write_place.ensures.most c.self.inside.cap is.upto (omega (arith, within c, is.size));
      few = is.few;
      for_slots_is = omega (arith, is.for_slots_is, c.push.ensures.lower_bound);
      for_places_is = omega (arith, is.for_places_is, c.write_place.ensures.room);
    }

pub returns-clause-pushed : goal.returns-clause-pushed
returns-clause-pushed c =
    let id = c.in_ok-id.id in
    let x = c.placed.result in
    let taken = c.in_ok-id.ensures.taken in
    let slots_is : c.push.new.self.items ≡ c.self.inside.slots.items ++ id.slot ∷ [] = rw c.unwrap.ensures at c.push.ensures.items in
    let ids_is = ids_more c.self.inside.pool.slots c.self.inside.slots.items id.slot id.birth x c.self.invariant.held (within c) (empty c) in (
      x,
      c.placed.ensures.bound,
      subst (λ (v : Listing). listing c.write_place.new.places.items c.push.new.self.items c.take.new.self c.self.inside.cap
          ≡ record { entries = v.entries ++ c.args.e ∷ []; ids = v.ids ++ id ∷ []; cap = v.cap; pool = record { slots = set v.pool.slots id.slot (Some (id.birth, x)); births = v.pool.births + 1 } }) c.self.view_is
          (rw (slots_is, stored_is c, whole c, taken, ids_is) refl),
    )
