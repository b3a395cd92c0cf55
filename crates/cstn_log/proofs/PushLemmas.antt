-- What a log keeps after a push.
use Rattle.std.proofs.Common.{◌≡◌, ◌≢◌, ◌⊎◌, inl, inr, ℕ, ◌+◌, ◌<◌, cond, List, [], ◌∷◌, ◌++◌, length, get_or, set, refl, ap, sym, ◌∙◌, subst, arith, length-append}
use Rattle.std.specs.Prelude.{Option, None, Some, is_some, slice_get}
use Rattle.std.proofs.lemmas.List.{get_or-set_other, get_or-set_same, length-set}
use Rattle.std.proofs.lemmas.List.Sums.{sum_by-set}
use Rattle.std.proofs.lemmas.Bool.{cases_eq}
use Rattle.std.proofs.lemmas.Option.{same_Some, slice_get_within, get_or_from_slice_get, none-some}
use Rattle.cstn_label.specs.declared.bounds.Bound.{Bound}
use Rattle.cstn_label.specs.Bounds.{Bound as TheBound, Dominates}
use Rattle.cstn_label.specs.Read.{the_bound}
use Rattle.cstn_rules.specs.declared.entries.Entry.{Entry}
use Rattle.cstn_pool.specs.declared.slot_id.SlotId.{SlotId}
use Rattle.cstn_pool.specs.Slots.{Slots, live_of}
use Rattle.cstn_minset.specs.Sets.{Places, Entries, IsPlaced, IsBoundOver, IsCoveredInSet, IsCleared}
use Rattle.cstn_log.specs.Entries.{IsCoveredBy, IsLive}
use Rattle.cstn_log.specs.Kept.{IsLogKept, IsPooled, IsTabled, IsIdAt}
use Rattle.cstn_facts.proofs.Places.{get_left, get_last, get_more}
use Rattle.cstn_log.proofs.LiveLemmas.{live_more, live_less, last_not_over, live_last, new_more}
use Rattle.cstn_log.proofs.KeptLemmas.{other_slot, unplaced}

-- a value behind a list stands at the length of that list
last_of : {X Y : Type 0} (xs : List X) (ys : List Y) (y : Y) → length ys ≡ length xs → slice_get (ys ++ y ∷ []) (length xs) ≡ Some y
last_of xs ys y size = subst (λ (n : ℕ). slice_get (ys ++ y ∷ []) n ≡ Some y) size (get_last ys y)

-- domination is transitive
abbrev pub IsThrough : Type 0
IsThrough = (a b c : TheBound) → Dominates a b → Dominates b c → Dominates a c

-- what stands in the table after a slot was filled
placed_more : (table : Entries) (slot u : ℕ) (x e : ℕ × Bound) → slot < length table → IsPlaced (set table slot (Some x)) u e → ((u ≡ slot) × (x ≡ e)) ⊎ ((u ≢ slot) × IsPlaced table u e)
placed_more table slot u x e inside is = elim (cases_eq u slot) [
  | inl same ↦ inl (same, same_Some x e (sym (get_or-set_same table slot (Some x) None inside) ∙ rw same at is))
  | inr other ↦ inr (other, sym (get_or-set_other table slot u (Some x) None other) ∙ is)
]

-- filling an empty slot puts one slot more in use
pub count_filled : (slots : List (Option (ℕ × Entry))) (slot : ℕ) (entry : ℕ × Entry) → slot < length slots → get_or slots slot None ≡ None → live_of (set slots slot (Some entry)) ≡ live_of slots + 1
count_filled slots slot entry inside none =
    let one : live_of (set slots slot (Some entry)) + cond (is_some (get_or slots slot None)) 1 0 ≡ live_of slots + 1 = sum_by-set (λ x. cond (is_some x) 1 0) slots slot (Some entry) None inside in
    let two = rw none at one in omega arith

module _ (through : IsThrough) (table cleared : Entries) (entries : List Entry) (ids : List SlotId) (id : SlotId) (x : Entry) (is : IsTabled table entries ids) (size : length entries ≡ length ids) (other : (k : ℕ) (jd : SlotId) → slice_get ids k ≡ Some jd → jd.slot ≢ id.slot) (inside : id.slot < length table) (clear : IsCleared x.bound table cleared) where
  placed_old : (s : ℕ) (b : ℕ × Bound) → IsPlaced cleared s b → (k : ℕ) × (e : Entry) × IsIdAt (ids ++ id ∷ []) s b.0 k × (slice_get (entries ++ x ∷ []) k ≡ Some e) × IsLive (entries ++ x ∷ []) k × (e.bound ≡ b.1)
  placed_old s b there =
      let jd : SlotId = record { slot = s; birth = b.0 } in
      let f = is.placed s b (clear.was s b there) in
      let not_over : ¬ IsBoundOver x.bound f.1.bound = subst (λ (z : Bound). ¬ IsBoundOver x.bound z) (sym f.5) (clear.none_under s b there) in
      (f.0, f.1, record { there = get_left ids id f.0 jd f.2.there }, get_left entries x f.0 f.1 f.3, live_more entries x f.0 f.1 f.3 f.4 not_over, f.5)

  live_old : (k : ℕ) (jd : SlotId) (e : Entry) → slice_get ids k ≡ Some jd → slice_get entries k ≡ Some e → IsLive (entries ++ x ∷ []) k → IsPlaced (set cleared id.slot (Some (id.birth, x.bound))) jd.slot (jd.birth, e.bound)
  live_old k jd e there at alive =
      let was : IsPlaced table jd.slot (jd.birth, e.bound) = is.live k jd e there at (live_less entries x k e at alive) in
      let stays = clear.kept jd.slot (jd.birth, e.bound) was (last_not_over entries x k e at alive) in
      get_or-set_other cleared id.slot jd.slot (Some (id.birth, x.bound)) None (other k jd there) ∙ stays

  -- what the new table doesn't cover, the old one doesn't cover either
  covered_before : (b : Bound) → ¬ IsCoveredInSet (set cleared id.slot (Some (id.birth, x.bound))) b → ¬ IsCoveredInSet table b
  covered_before b not c =
      let elsewhere : c.0 ≢ id.slot = λ same. none-some c.1 (sym (unplaced table entries ids id.slot is other) ∙ rw same at c.2) in
      let stays : ¬ IsBoundOver x.bound c.1.1 → ⊥ = λ n. not (c.0, c.1, get_or-set_other cleared id.slot c.0 (Some (id.birth, x.bound)) None elsewhere ∙ clear.kept c.0 c.1 c.2 n, c.3) in
      stays (λ over. not (id.slot, (id.birth, x.bound), get_or-set_same cleared id.slot (Some (id.birth, x.bound)) None (omega (arith, clear.size, inside)), through (the_bound x.bound) (the_bound c.1.1) (the_bound b) over c.3))

  pub tabled_more : IsTabled (set cleared id.slot (Some (id.birth, x.bound))) (entries ++ x ∷ []) (ids ++ id ∷ [])
  tabled_more =
      let wide : id.slot < length cleared = omega (arith, clear.size, inside) in
      let here : IsPlaced (set cleared id.slot (Some (id.birth, x.bound))) id.slot (id.birth, x.bound) = get_or-set_same cleared id.slot (Some (id.birth, x.bound)) None wide in
      record {
        covers = λ b not c. elim (get_more entries x c.0 c.1 c.2) [
          | inl p ↦ is.covers b (covered_before b not) (c.0, c.1, p, c.3)
          | inr p ↦ not (id.slot, (id.birth, x.bound), here, subst (λ (z : Entry). IsBoundOver z.bound b) (sym p.1) c.3)
        ];
        placed = λ s b there. elim (placed_more cleared id.slot s (id.birth, x.bound) b wide there) [
          | inl p ↦ rw (p.0, ← p.1) (length ids, x, record { there = get_last ids id }, last_of ids entries x size, subst (λ (n : ℕ). IsLive (entries ++ x ∷ []) n) size (live_last entries x), refl)
          | inr p ↦ placed_old s b p.1
        ];
        live = λ k jd e there at alive. elim (get_more ids id k jd there) [
          | inl p ↦ elim (get_more entries x k e at) [
            | inl q ↦ live_old k jd e p q alive
            | inr q ↦ absurd (omega (arith, slice_get_within ids k jd p, q.0, size))
          ]
          | inr p ↦ elim (get_more entries x k e at) [
            | inl q ↦ absurd (omega (arith, slice_get_within entries k e q, p.0, size))
            | inr q ↦ rw (← p.1, ← q.1) here
          ]
        ];
      }

-- one more entry in the pool, which holds another one with its bound
pub pooled_more : (slots : List (Option (ℕ × Entry))) (births : ℕ) (entries : List Entry) (ids : List SlotId) (slot : ℕ) (x held : Entry) → held.bound ≡ x.bound → IsPooled slots births entries ids → length entries ≡ length ids → slot < length slots → get_or slots slot None ≡ None →
    IsPooled (set slots slot (Some (births, held))) (births + 1) (entries ++ x ∷ []) (ids ++ record { slot = slot; birth = births } ∷ [])
pooled_more slots births entries ids slot x held bound is size inside free =
    let id : SlotId = record { slot = slot; birth = births } in
    record {
      held = λ k jd there. elim (get_more ids id k jd there) [
        | inl p ↦ (let h = is.held k jd p in (h.0, h.1, get_left entries x k h.0 h.2, get_or-set_other slots slot jd.slot (Some (births, held)) None (other_slot slots births entries ids slot is free k jd p) ∙ h.3, h.4))
        | inr p ↦ rw (← p.1, p.0) (x, held, last_of ids entries x size, get_or-set_same slots slot (Some (births, held)) None inside, bound)
      ];
      used = omega (arith, count_filled slots slot (births, held) inside free, is.used, length-append ids (id ∷ []));
      found = λ s e there. elim (cases_eq s slot) [
        | inl same ↦ (let this : (births, held) ≡ e = same_Some (births, held) e (sym (get_or-set_same slots slot (Some (births, held)) None inside) ∙ rw same at there) in
            rw (same, ← this) (length ids, record { there = get_last ids id }))
        | inr other ↦ (let f = is.found s e (sym (get_or-set_other slots slot s (Some (births, held)) None other) ∙ there) in (f.0, record { there = get_left ids id f.0 (record { slot = s; birth = e.0 }) f.1.there }))
      ];
      ascending = λ k j jd kd less a c. elim (get_more ids id k jd a) [
        | inl p ↦ elim (get_more ids id j kd c) [ inl q ↦ is.ascending k j jd kd less p q | inr q ↦ rw (← q.1) (is.before k jd p) ]
        | inr p ↦ elim (get_more ids id j kd c) [ inl q ↦ absurd (omega (arith, slice_get_within ids j kd q, p.0)) | inr q ↦ absurd (omega (arith, p.0, q.0)) ]
      ];
      before = λ k jd there. elim (get_more ids id k jd there) [ inl p ↦ omega (arith, is.before k jd p) | inr p ↦ rw (← p.1) (omega arith) ];
    }

-- one more entry in the pool and in the minimal set
pub kept_more : IsThrough → (slots : List (Option (ℕ × Entry))) (births : ℕ) (table cleared : Entries) (entries : List Entry) (ids : List SlotId) (nodes slot : ℕ) (x held : Entry) → held.bound ≡ x.bound → IsLogKept slots births table entries ids nodes → slot < length slots → get_or slots slot None ≡ None → IsCleared x.bound table cleared → ¬ IsCoveredBy entries x.bound → x.bound.node.0 < nodes →
    IsLogKept (set slots slot (Some (births, held))) (births + 1) (set cleared slot (Some (births, x.bound))) (entries ++ x ∷ []) (ids ++ record { slot = slot; birth = births } ∷ []) nodes
kept_more through slots births table cleared entries ids nodes slot x held bound is inside free clear uncovered node =
    let id : SlotId = record { slot = slot; birth = births } in
    record {
      pooled = pooled_more slots births entries ids slot x held bound is.pooled is.size inside free;
      tabled = tabled_more through table cleared entries ids id x is.tabled is.size (other_slot slots births entries ids slot is.pooled free) (omega (arith, inside, is.room)) clear;
      room = length-set cleared slot (Some (births, x.bound)) ∙ clear.size ∙ is.room ∙ sym (length-set slots slot (Some (births, held)));
      size = omega (arith, length-append entries (x ∷ []), length-append ids (id ∷ []), is.size);
      fresh = new_more entries x is.fresh uncovered;
      inside = λ k e there. elim (get_more entries x k e there) [ inl p ↦ is.inside k e p | inr p ↦ rw (← p.1) node ];
    }

empty_in : (slots : List (Option (ℕ × Entry))) (s : ℕ) → slice_get slots s ≡ Some None → (s < length slots) × (get_or slots s None ≡ None)
empty_in slots s is = (slice_get_within slots s None is, get_or_from_slice_get slots s None None is)

-- the id of a slot and a birth
abbrev the_id : ℕ → ℕ → SlotId
the_id s n = record { slot = s; birth = n }

-- the calls of `push` leave what a log keeps
pub push_step : IsThrough → (slots : List (Option (ℕ × Entry))) (births : ℕ) (minimal : Places) (cleared : Entries) (entries longer : List Entry) (ids : List SlotId) (id : SlotId) (x held : Entry) (pool : Slots Entry) (placed : Places) (new : List SlotId) → held.bound ≡ x.bound → IsLogKept slots births minimal.table entries ids minimal.nodes → slice_get slots id.slot ≡ Some None → id.birth ≡ births → pool ≡ record { slots = set slots id.slot (Some (id.birth, held)); births = births + 1 } → IsCleared x.bound minimal.table cleared → placed ≡ record minimal { table = set cleared id.slot (Some (id.birth, x.bound)) } → longer ≡ entries ++ x ∷ [] → new ≡ ids ++ id ∷ [] → ¬ IsCoveredBy entries x.bound → x.bound.node.0 < minimal.nodes → IsLogKept pool.slots pool.births placed.table longer new placed.nodes
push_step through slots births minimal cleared entries longer ids id x held pool placed new bound is empty same taken clear placed_is longer_is new_is uncovered node =
    let e = empty_in slots id.slot empty in
    let id_is : record { slot = id.slot; birth = births } ≡ id = ap (λ (n : ℕ). the_id id.slot n) (sym same) in
    rw (taken, placed_is, longer_is, new_is) (subst (λ (y : SlotId). IsLogKept (set slots id.slot (Some (y.birth, held))) (births + 1) (set cleared id.slot (Some (y.birth, x.bound))) (entries ++ x ∷ []) (ids ++ y ∷ []) minimal.nodes) id_is (kept_more through slots births minimal.table cleared entries ids minimal.nodes id.slot x held bound is e.0 e.1 clear uncovered node))

pub slot_empty : (slots : List (Option (ℕ × Entry))) (births : ℕ) (entries : List Entry) (ids : List SlotId) (id : SlotId) → IsPooled slots births entries ids → slice_get slots id.slot ≡ Some None → (k : ℕ) (jd : SlotId) → slice_get ids k ≡ Some jd → jd.slot ≢ id.slot
slot_empty slots births entries ids id is empty = other_slot slots births entries ids id.slot is (empty_in slots id.slot empty).1
