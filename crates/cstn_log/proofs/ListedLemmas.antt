-- Lists whose entries name their premises by slots.
use Rattle.std.proofs.Common.{ℕ, zero, suc, ◌≡◌, ◌≢◌, inl, inr, ◌+◌, ◌<◌, ◌≤◌, Bool, true, Option, Some, None, List, [], ◌∷◌, ◌++◌, length, map, get_or, set, arith, refl, sym, subst, ap, ◌∙◌, length-append}
use Rattle.std.specs.Prelude.{slice_get, IsSome, option_map}
use Rattle.std.proofs.lemmas.Bool.{cases_Bool}
use Rattle.std.proofs.lemmas.List.{map-append, map-id, get_or-set_other, get_or-set_same, length-map}
use Rattle.std.proofs.lemmas.List.Sums.{count_by-le-length}
use Rattle.std.proofs.lemmas.Option.{slice_get-get_or, slice_get-map, get_or_from_slice_get, none-some, same_Some}
use Rattle.std.specs.Option.{is_some}
use Rattle.cstn_label.specs.declared.bounds.Bound.{Bound}
use Rattle.cstn_rules.specs.declared.entries.Entry.{Entry}
use Rattle.cstn_rules.specs.declared.entries.Why.{Why}
use Rattle.cstn_rules.specs.declared.entries.Why.TheVariants.{Base, Chain, Wait}
use Rattle.cstn_pool.specs.declared.slot_id.SlotId.{SlotId}
use Rattle.cstn_pool.specs.Slots.{Slots}
use Rattle.cstn_log.specs.Cuts.{PremisesBelow, PremisesMarked, is_place_marked, rank, renumbered, replaced, chosen_from, chosen}
use Rattle.cstn_log.specs.Lists.{Listing, IsFiled, IsSlot, AreSlots, AreApart, AreHeldIn, placed, with_held, stored_in, birth_of, id_in, ids_in}
use Rattle.cstn_log.specs.Kept.{AreLeft, AreStored, slots_of}
use Rattle.cstn_facts.proofs.Places.{get_left, get_more, get_map, map_same}
use Rattle.cstn_log.proofs.KeptLemmas.{one_read}
use Rattle.cstn_log.proofs.PushLemmas.{count_filled}
use Rattle.cstn_log.proofs.ChoiceLemmas.{chosen_marked, chosen_unmarked, chosen_comes, chosen_goes, length_chosen}

abbrev pub of_rule : Bound → Why → Entry
of_rule b w = record { bound = b; why = w }

-- a slot stands at the place that the table tells
pub slot_place : (places slots : List ℕ) (s : ℕ) → IsFiled places slots → (slot : IsSlot slots s) → get_or places s 0 ≡ slot.place
slot_place places slots s filed slot = filed.at slot.place s slot.there

slot_within : (places slots : List ℕ) (s : ℕ) → IsFiled places slots → IsSlot slots s → s < length places
slot_within places slots s filed slot = filed.inside slot.place s slot.there

pub slots_within : (places slots : List ℕ) (why : Why) → IsFiled places slots → AreSlots slots why → PremisesBelow (length places) why
slots_within places slots Base filed are = tt
slots_within places slots (Chain by s) filed are = slot_within places slots s filed are
slots_within places slots (Wait s t) filed are = (slot_within places slots s filed are.0, slot_within places slots t filed are.1)

-- slots whose places a table tells stand once in the list
pub filed_apart : (places slots : List ℕ) → IsFiled places slots → AreApart slots
filed_apart places slots filed j k s one other = sym (filed.at j s one) ∙ filed.at k s other

slot_at : (slots : List ℕ) (i : ℕ) → i < length slots → IsSlot slots (get_or slots i 0)
slot_at slots i low = record { place = i; there = slice_get-get_or slots i 0 low }

pub named_slots : (slots : List ℕ) (why : Why) → PremisesBelow (length slots) why → AreSlots slots (replaced slots why)
named_slots slots Base low = tt
named_slots slots (Chain by i) low = slot_at slots i low
named_slots slots (Wait i j) low = (slot_at slots i low.0, slot_at slots j low.1)

back_at : (places slots : List ℕ) (i : ℕ) → IsFiled places slots → i < length slots → get_or places (get_or slots i 0) 0 ≡ i
unfolding slot_at
back_at places slots i filed low = slot_place places slots (get_or slots i 0) filed (slot_at slots i low)

named_back : (places slots : List ℕ) (why : Why) → IsFiled places slots → PremisesBelow (length slots) why → replaced places (replaced slots why) ≡ why
named_back places slots Base filed low = refl
named_back places slots (Chain by i) filed low = ap (Chain by) (back_at places slots i filed low)
named_back places slots (Wait i j) filed low = rw (back_at places slots i filed low.0, back_at places slots j filed low.1) refl

slot_more : (slots : List ℕ) (slot s : ℕ) → IsSlot slots s → IsSlot (slots ++ slot ∷ []) s
slot_more slots slot s is = record { place = is.place; there = get_left slots slot is.place s is.there }

slots_more : (slots : List ℕ) (slot : ℕ) (why : Why) → AreSlots slots why → AreSlots (slots ++ slot ∷ []) why
slots_more slots slot Base are = tt
slots_more slots slot (Chain by s) are = slot_more slots slot s are
slots_more slots slot (Wait s t) are = (slot_more slots slot s are.0, slot_more slots slot t are.1)

-- the entry e is pushed into a slot that was free, and stored as x
pub record IsPushed (places new slots : List ℕ) (slot : ℕ) (e x : Entry) : Type 0 where
  pub low : PremisesBelow (length slots) e.why
  pub bound : x.bound ≡ e.bound
  pub why : x.why ≡ replaced slots e.why
  pub free : (k s : ℕ) → slice_get slots k ≡ Some s → s ≢ slot
  pub here : get_or new slot 0 ≡ length slots
  pub others : (s : ℕ) → s < length places → s ≢ slot → get_or new s 0 ≡ get_or places s 0
  pub longer : length places ≤ length new
  pub inside : slot < length new

module _ (places new : List ℕ) (stored : List Entry) (slots : List ℕ) (slot : ℕ) (e x : Entry) (filed : IsFiled places slots)
    (named : (k : ℕ) (f : Entry) → slice_get stored k ≡ Some f → AreSlots slots f.why) (is : IsPushed places new slots slot e x) where
  filed_still : IsFiled new slots
  filed_still = record {
    inside = λ k s there. omega (arith, filed.inside k s there, is.longer);
    at = λ k s there. is.others s (filed.inside k s there) (is.free k s there) ∙ filed.at k s there;
  }

  pub filed_more : IsFiled new (slots ++ slot ∷ [])
  filed_more = record {
    inside = λ k s there. elim (get_more slots slot k s there) [
      | inl p ↦ filed_still.inside k s p
      | inr p ↦ rw (← p.1) is.inside
    ];
    at = λ k s there. elim (get_more slots slot k s there) [
      | inl p ↦ filed_still.at k s p
      | inr p ↦ rw (p.0, ← p.1) is.here
    ];
  }

  pub named_more : (k : ℕ) (f : Entry) → slice_get (stored ++ x ∷ []) k ≡ Some f → AreSlots (slots ++ slot ∷ []) f.why
  named_more k f there = slots_more slots slot f.why (elim (get_more stored x k f there) [
    | inl p ↦ named k f p
    | inr p ↦ rw (← p.1, is.why) (named_slots slots e.why is.low)
  ])

  same_placed : (w : Why) → AreSlots slots w → replaced new w ≡ replaced places w
  same_placed Base are = refl
  same_placed (Chain by s) are = ap (Chain by) (slot_place new slots s filed_still are ∙ sym (slot_place places slots s filed are))
  same_placed (Wait s t) are =
      let one : get_or new s 0 ≡ get_or places s 0 = slot_place new slots s filed_still are.0 ∙ sym (slot_place places slots s filed are.0) in
      let other : get_or new t 0 ≡ get_or places t 0 = slot_place new slots t filed_still are.1 ∙ sym (slot_place places slots t filed are.1) in
      rw (one, other) refl

  pub placed_more : map (placed new) (stored ++ x ∷ []) ≡ map (placed places) stored ++ e ∷ []
  placed_more =
      let old = map_same (placed new) (placed places) stored (λ k f there. ap (of_rule f.bound) (same_placed f.why (named k f there))) in
      let rule : replaced new x.why ≡ e.why = ap (replaced new) is.why ∙ named_back new slots e.why filed_still is.low in
      let last : placed new x ≡ e = ap (λ b. of_rule b (replaced new x.why)) is.bound ∙ ap (of_rule e.bound) rule in
      map-append (placed new) stored (x ∷ []) ∙ rw (old, last) refl

-- the images of chosen values are the values chosen among the images
pub chosen_map : {X Y Z : Type 0} (marks : List Bool) (f : X → Z) (g : X → Y) (h : Y → Z) (xs : List X) →
    ((k : ℕ) (x : X) → slice_get xs k ≡ Some x → is_place_marked marks k ≡ true → f x ≡ h (g x)) → map f (chosen marks xs) ≡ chosen marks (map h (map g xs))
chosen_map {X = X} marks f g h xs same = go 0 xs (λ k x there marked. same k x there (let e : 0 + k ≡ k = omega arith in rw e at marked))
  where
    go : (n : ℕ) (ys : List X) → ((k : ℕ) (x : X) → slice_get ys k ≡ Some x → is_place_marked marks (n + k) ≡ true → f x ≡ h (g x)) → map f (chosen_from marks n ys) ≡ chosen_from marks n (map h (map g ys))
    go n [] each = refl
    go n (y ∷ ys) each =
        let rest = go (suc n) ys (λ k x there marked. each (suc k) x there (let e : n + suc k ≡ suc n + k = omega arith in rw e marked)) in
        elim (cases_Bool (is_place_marked marks n)) [
          | inl t ↦
              let this = each 0 y refl (let e : n + 0 ≡ n = omega arith in rw e t) in
              rw (chosen_marked marks n y ys t, chosen_marked marks n (h (g y)) (map h (map g ys)) t, this, rest) refl
          | inr u ↦ rw (chosen_unmarked marks n y ys u, chosen_unmarked marks n (h (g y)) (map h (map g ys)) u) rest
        ]

-- chosen slots stand once, where all slots do
pub chosen_apart : (marks : List Bool) (slots : List ℕ) → AreApart slots → AreApart (chosen marks slots)
chosen_apart marks slots apart j k s one other =
    let a = chosen_comes marks slots j s one in
    let b = chosen_comes marks slots k s other in
    sym a.3 ∙ ap (rank marks) (apart a.0 b.0 s a.1 b.1) ∙ b.3

-- a list of which the marked entries are kept
module _ (marks : List Bool) (places slots : List ℕ) (filed : IsFiled places slots) where
  slot_kept : (s : ℕ) → IsSlot slots s → is_place_marked marks (get_or places s 0) ≡ true → IsSlot (chosen marks slots) s
  slot_kept s slot marked =
      let there = subst (λ n. is_place_marked marks n ≡ true) (slot_place places slots s filed slot) marked in
      record { place = rank marks slot.place; there = chosen_goes marks slots slot.place s slot.there there }

  pub slots_kept : (why : Why) → AreSlots slots why → PremisesMarked marks (replaced places why) → AreSlots (chosen marks slots) why
  slots_kept Base are marked = tt
  slots_kept (Chain by s) are marked = slot_kept s are marked
  slots_kept (Wait s t) are marked = (slot_kept s are.0 marked.0, slot_kept t are.1 marked.1)

  module _ (new : List ℕ) (refiled : IsFiled new (chosen marks slots)) where
    rank_kept : (s : ℕ) → IsSlot slots s → is_place_marked marks (get_or places s 0) ≡ true → get_or new s 0 ≡ rank marks (get_or places s 0)
    unfolding slot_kept
    rank_kept s slot marked =
        slot_place new (chosen marks slots) s refiled (slot_kept s slot marked) ∙ ap (rank marks) (sym (slot_place places slots s filed slot))

    pub placed_kept : (why : Why) → AreSlots slots why → PremisesMarked marks (replaced places why) → replaced new why ≡ renumbered marks (replaced places why)
    placed_kept Base are marked = refl
    placed_kept (Chain by s) are marked = ap (Chain by) (rank_kept s are marked)
    placed_kept (Wait s t) are marked = rw (rank_kept s are.0 marked.0, rank_kept t are.1 marked.1) refl

-- no more slots are listed than the pool has
pub held_few : (pool : List (Option (ℕ × Entry))) (slots : List ℕ) → AreHeldIn pool slots → length slots ≤ length pool
held_few pool slots is = omega (arith, is.count, count_by-le-length is_some pool)

some_there : {X : Type 0} (o : Option X) → IsSome o → (x : X) × (o ≡ Some x)
some_there None is = cc
some_there (Some x) is = (x, refl)

-- each of the slots holds an entry
abbrev pub AreFull : List (Option (ℕ × Entry)) → List ℕ → Type 0
AreFull pool slots = (k s : ℕ) → slice_get slots k ≡ Some s → IsSome (get_or pool s None)

pub stored_length : (pool : List (Option (ℕ × Entry))) (slots : List ℕ) → AreFull pool slots → length (stored_in pool slots) ≡ length slots
stored_length pool [] full = refl
stored_length pool (s ∷ slots) full =
    let e = some_there (get_or pool s None) (full 0 s refl) in
    rw e.1 (ap suc (stored_length pool slots (λ k t there. full (suc k) t there)))

pub stored_at : (pool : List (Option (ℕ × Entry))) (slots : List ℕ) (k s : ℕ) (e : ℕ × Entry) → AreFull pool slots → slice_get slots k ≡ Some s → get_or pool s None ≡ Some e → slice_get (stored_in pool slots) k ≡ Some e.1
stored_at pool [] k s e full there at = absurd (none-some s there)
stored_at pool (t ∷ slots) zero s e full there at = rw (same_Some t s there, at) refl
stored_at pool (t ∷ slots) (suc k) s e full there at =
    let x = some_there (get_or pool t None) (full 0 t refl) in
    rw x.1 (stored_at pool slots k s e (λ j u is. full (suc j) u is) there at)

stored_append : (pool : List (Option (ℕ × Entry))) (slots more : List ℕ) → stored_in pool (slots ++ more) ≡ stored_in pool slots ++ stored_in pool more
stored_append pool [] more = refl
stored_append pool (s ∷ slots) more = rw (stored_append pool slots more) (go (get_or pool s None))
  where
    go : (o : Option (ℕ × Entry)) → with_held o (stored_in pool slots ++ stored_in pool more) ≡ with_held o (stored_in pool slots) ++ stored_in pool more
    go None = refl
    go (Some e) = refl

stored_same : (pool new : List (Option (ℕ × Entry))) (slots : List ℕ) → ((k s : ℕ) → slice_get slots k ≡ Some s → get_or new s None ≡ get_or pool s None) → stored_in new slots ≡ stored_in pool slots
stored_same pool new [] same = refl
stored_same pool new (s ∷ slots) same = rw (same 0 s refl, stored_same pool new slots (λ k t there. same (suc k) t there)) refl

-- a list in a pool, of which a slot that was empty is filled
module _ (pool : List (Option (ℕ × Entry))) (slots : List ℕ) (slot birth : ℕ) (x : Entry) (is : AreHeldIn pool slots) (inside : slot < length pool) (empty : get_or pool slot None ≡ None) where
  pub free_slot : (k s : ℕ) → slice_get slots k ≡ Some s → s ≢ slot
  free_slot k s there same =
      let e = some_there (get_or pool s None) (is.held k s there) in
      none-some e.0 (sym empty ∙ ap (λ (u : ℕ). get_or pool u None) (sym same) ∙ e.1)

  held_still : (k s : ℕ) → slice_get slots k ≡ Some s → get_or (set pool slot (Some (birth, x))) s None ≡ get_or pool s None
  held_still k s there = get_or-set_other pool slot s (Some (birth, x)) None (free_slot k s there)

  held_last : get_or (set pool slot (Some (birth, x))) slot None ≡ Some (birth, x)
  held_last = get_or-set_same pool slot (Some (birth, x)) None inside

  pub stored_more : stored_in (set pool slot (Some (birth, x))) (slots ++ slot ∷ []) ≡ stored_in pool slots ++ x ∷ []
  stored_more = stored_append (set pool slot (Some (birth, x))) slots (slot ∷ []) ∙ rw (stored_same pool (set pool slot (Some (birth, x))) slots held_still, held_last) refl

  pub ids_more : ids_in (set pool slot (Some (birth, x))) (slots ++ slot ∷ []) ≡ ids_in pool slots ++ record { slot = slot; birth = birth } ∷ []
  ids_more =
      let old = map_same (id_in (set pool slot (Some (birth, x)))) (id_in pool) slots (λ k s there. rw (held_still k s there) refl) in
      map-append (id_in (set pool slot (Some (birth, x)))) slots (slot ∷ []) ∙ rw (old, held_last) refl

  pub held_more : AreHeldIn (set pool slot (Some (birth, x))) (slots ++ slot ∷ [])
  held_more = record {
    held = λ k s there. elim (get_more slots slot k s there) [
      | inl p ↦ rw (held_still k s p) (is.held k s p)
      | inr p ↦ rw (← p.1, held_last) refl
    ];
    count = omega (arith, count_filled pool slot (birth, x) inside empty, is.count, length-append slots (slot ∷ []));
  }

-- the entries of chosen slots are the chosen entries
stored_chosen : (marks : List Bool) (pool new : List (Option (ℕ × Entry))) (n : ℕ) (slots : List ℕ) → AreFull pool slots →
    ((k s : ℕ) → slice_get slots k ≡ Some s → is_place_marked marks (n + k) ≡ true → get_or new s None ≡ get_or pool s None) → stored_in new (chosen_from marks n slots) ≡ chosen_from marks n (stored_in pool slots)
stored_chosen marks pool new n [] full same = refl
stored_chosen marks pool new n (s ∷ slots) full same =
    let e = some_there (get_or pool s None) (full 0 s refl) in
    let rest = stored_chosen marks pool new (suc n) slots (λ k t there. full (suc k) t there) (λ k t there marked. same (suc k) t there (let m : n + suc k ≡ suc n + k = omega arith in rw m marked)) in
    elim (cases_Bool (is_place_marked marks n)) [
      | inl t ↦
          let this : get_or new s None ≡ Some e.0 = same 0 s refl (let m : n + 0 ≡ n = omega arith in rw m t) ∙ e.1 in
          rw (e.1, chosen_marked marks n s slots t, chosen_marked marks n e.0.1 (stored_in pool slots) t, this, rest) refl
      | inr u ↦ rw (e.1, chosen_unmarked marks n s slots u, chosen_unmarked marks n e.0.1 (stored_in pool slots) u) rest
    ]

-- a list in a pool, of which the slots that aren't marked were given back
module _ (pool new : List (Option (ℕ × Entry))) (slots : List ℕ) (marks : List Bool) (is : AreHeldIn pool slots) (left : AreLeft marks (ids_in pool slots) (length slots) pool new) where
  same_there : (k s : ℕ) → slice_get slots k ≡ Some s → is_place_marked marks k ≡ true → get_or new s None ≡ get_or pool s None
  same_there k s there marked = left.stays k (id_in pool s) (slice_get-map (id_in pool) slots k ∙ rw there refl) (inl marked)

  pub stored_left : stored_in new (chosen marks slots) ≡ chosen marks (stored_in pool slots)
  stored_left = stored_chosen marks pool new 0 slots is.held (λ k s there marked. same_there k s there (let e : 0 + k ≡ k = omega arith in rw e at marked))

  pub ids_left : ids_in new (chosen marks slots) ≡ chosen marks (ids_in pool slots)
  ids_left = chosen_map marks (id_in new) (id_in pool) (λ y. y) slots (λ k s there marked. rw (same_there k s there marked) refl) ∙ ap (chosen marks) (map-id (ids_in pool slots))

  pub held_left : AreHeldIn new (chosen marks slots)
  held_left = record {
    held = λ k s there. (let from = chosen_comes marks slots k s there in rw (same_there from.0 s from.1 from.2) (is.held from.0 s from.1));
    count = omega (arith, left.count, is.count, length_chosen marks slots);
  }

-- ---- entries as the pool stores them

slots_back : (pool : List (Option (ℕ × Entry))) (slots : List ℕ) → slots_of (ids_in pool slots) ≡ slots
slots_back pool [] = refl
slots_back pool (s ∷ slots) = ap (λ (l : List ℕ). s ∷ l) (slots_back pool slots)

slot_again : (places slots : List ℕ) (s : ℕ) → IsFiled places slots → IsSlot slots s → get_or slots (get_or places s 0) 0 ≡ s
slot_again places slots s filed slot =
    ap (λ (p : ℕ). get_or slots p 0) (slot_place places slots s filed slot)
    ∙ get_or_from_slice_get slots slot.place s 0 slot.there

-- a rule that names its premises by slots names them so again, where each is replaced by its place and that by its slot
named_again : (places slots : List ℕ) (why : Why) → IsFiled places slots → AreSlots slots why → replaced slots (replaced places why) ≡ why
named_again places slots Base filed are = refl
named_again places slots (Chain by s) filed are = ap (Chain by) (slot_again places slots s filed are)
named_again places slots (Wait s t) filed are =
    rw (slot_again places slots s filed are.0, slot_again places slots t filed are.1) refl

-- the pool of a list stores each entry under its id
pub pool_stores : (places slots : List ℕ) (pool : List (Option (ℕ × Entry))) → IsFiled places slots →
    ((k : ℕ) (e : Entry) → slice_get (stored_in pool slots) k ≡ Some e → AreSlots slots e.why) → AreHeldIn pool slots →
    AreStored pool (map (placed places) (stored_in pool slots)) (ids_in pool slots)
pool_stores places slots pool filed named is k id there =
    let from = get_map (id_in pool) slots k id there in
    let x = some_there (get_or pool from.0 None) (is.held k from.0 from.1) in
    let read = stored_at pool slots k from.0 x.0 is.held from.1 x.1 in
    let e : Entry = placed places x.0.1 in
    let at : slice_get (map (placed places) (stored_in pool slots)) k ≡ Some e =
    slice_get-map (placed places) (stored_in pool slots) k ∙ ap (option_map (placed places)) read in
    let birth : birth_of (get_or pool from.0 None) ≡ x.0.0 = ap birth_of x.1 in
    let slot : from.0 ≡ id.slot = ap (λ (y : SlotId). y.slot) from.2 in
    let born : x.0.0 ≡ id.birth = sym birth ∙ ap (λ (y : SlotId). y.birth) from.2 in
    let held : get_or pool id.slot None ≡ Some (id.birth, x.0.1) =
    ap (λ (s : ℕ). get_or pool s None) (sym slot) ∙ x.1 ∙ ap (λ (n : ℕ). Some (n, x.0.1)) born in
    let why : x.0.1.why ≡ replaced (slots_of (ids_in pool slots)) e.why =
    sym (named_again places slots x.0.1.why filed (named k x.0.1 read)) ∙ ap (λ (l : List ℕ). replaced l e.why) (sym (slots_back pool slots)) in
    (e, x.0.1, at, held, refl, why)

-- a list as contracts see it
abbrev pub listing : List ℕ → List ℕ → Slots Entry → ℕ → Listing
listing places slots pool most = record { entries = map (placed places) (stored_in pool.slots slots); ids = ids_in pool.slots slots; cap = most; pool = pool }

pub listed_length : (places slots : List ℕ) (pool : Slots Entry) (most : ℕ) (now : Listing) → listing places slots pool most ≡ now → AreHeldIn pool.slots slots → length now.entries ≡ length slots
listed_length places slots pool most now view is =
    ap (λ v. length v.entries) (sym view) ∙ length-map (stored_in pool.slots slots) (placed places) ∙ stored_length pool.slots slots is.held

pub listed_ids : (places slots : List ℕ) (pool : Slots Entry) (most : ℕ) (now : Listing) → listing places slots pool most ≡ now → length now.ids ≡ length slots
listed_ids places slots pool most now view = ap (λ v. length v.ids) (sym view) ∙ length-map slots (id_in pool.slots)

-- the id that the pool tells of a slot
pub id_read : (pool : List (Option (ℕ × Entry))) (s : ℕ) (id : SlotId) (e : Entry) → id.slot ≡ s → get_or pool s None ≡ Some (id.birth, e) → id_in pool s ≡ id
id_read pool s id e slot at = ap (λ (n : ℕ). the_id n (birth_of (get_or pool s None))) (sym slot) ∙ ap (λ o. the_id id.slot (birth_of o)) at
  where
    the_id : ℕ → ℕ → SlotId
    the_id n birth = record { slot = n; birth = birth }

-- the slot of an id that is listed has its place in the table
pub id_filed : (places slots : List ℕ) (pool : List (Option (ℕ × Entry))) (k : ℕ) (id : SlotId) → IsFiled places slots → slice_get (ids_in pool slots) k ≡ Some id → (id.slot < length places) × (get_or places id.slot 0 ≡ k)
id_filed places slots pool k id filed there =
    let from = get_map (id_in pool) slots k id there in
    let slot : from.0 ≡ id.slot = ap (λ (y : SlotId). y.slot) from.2 in
    subst (λ (s : ℕ). (s < length places) × (get_or places s 0 ≡ k)) slot (filed.inside k from.0 from.1, filed.at k from.0 from.1)

-- the slot that is read at a place of the list stands there
pub slot_there : (places slots : List ℕ) (pool : Slots Entry) (most : ℕ) (now : Listing) (k s : ℕ) → listing places slots pool most ≡ now → AreHeldIn pool.slots slots → k < length now.entries → s ≡ get_or slots k s → slice_get slots k ≡ Some s
slot_there places slots pool most now k s view is low read = one_read slots k s (omega (arith, low, listed_length places slots pool most now view is)) read
