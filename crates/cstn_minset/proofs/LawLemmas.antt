-- Walks from the first entry of a kind by the next ones.
use Rattle.std.proofs.Common.{◌≡◌, inl, inr, ℕ, zero, suc, ◌+◌, ◌<◌, ◌≤◌, List, [], ◌∷◌, length, set, refl, sym, ◌∙◌, subst, arith}
use Rattle.std.specs.Prelude.{Some, None, is_some, slice_get}
use Rattle.std.proofs.lemmas.Bool.{cases_eq}
use Rattle.std.proofs.lemmas.List.{get_or-set_other}
use Rattle.std.proofs.lemmas.List.Sums.{count_by-le-length}
use Rattle.std.proofs.lemmas.Option.{none-some, same_Some, some_pair_parts}
use Rattle.cstn_label.specs.declared.bounds.Bound.{Bound}
use Rattle.cstn_pool.specs.declared.slot_id.SlotId.{SlotId}
use Rattle.cstn_pool.specs.Slots.{live_of}
use Rattle.cstn_pool.proofs.PoolLemmas.{count_emptied}
use Rattle.cstn_minset.specs.Sets.{Entries, IsPlaced, IsThere, IsWalkOfSlots, IsMinimal}
use Rattle.cstn_minset.proofs.TableLemmas.{placed_within}

-- placed ids in ascending birth are at most as many as the slots in use
ids_within : (T : Entries) (ids : List SlotId) → ((k : ℕ) (id : SlotId) → slice_get ids k ≡ Some id → IsThere T id) → ((j k : ℕ) (earlier later : SlotId) → slice_get ids j ≡ Some earlier → slice_get ids k ≡ Some later → j < k → earlier.birth < later.birth) → length ids ≤ live_of T
ids_within T [] there ascending = omega arith
ids_within T (x ∷ ids) there ascending =
    let here = there zero x refl in
    let count = count_emptied T x.slot (placed_within T x.slot (x.birth, here.0) here.1) (rw here.1 refl) in
    let stays : (k : ℕ) (id : SlotId) → slice_get ids k ≡ Some id → IsThere (set T x.slot None) id = λ k id is.
    let placed = there (suc k) id is in
    elim (cases_eq id.slot x.slot) [
      | inl same ↦ (let both = some_pair_parts x.birth id.birth here.0 placed.0 (sym here.1 ∙ subst (λ (n : ℕ). IsPlaced T n (id.birth, placed.0)) same placed.1) in absurd (omega (arith, both.0, ascending zero (suc k) x id refl is (omega arith))))
      | inr other ↦ (placed.0, get_or-set_other T x.slot id.slot None None other ∙ placed.1)
    ] in
    let rest = ids_within (set T x.slot None) ids stays (λ j k earlier later a b less. ascending (suc j) (suc k) earlier later a b (omega (arith, less))) in
    omega (arith, rest, count)

module _ (table : Entries) (Kind : Bound → Type 0) where
  -- each id of a walk is placed, with a bound of the kind and a birth from `low` on
  pub walk_there : (low : ℕ) (ids : List SlotId) (k : ℕ) (id : SlotId) → IsWalkOfSlots table Kind low ids → slice_get ids k ≡ Some id → (b : Bound) × IsPlaced table id.slot (id.birth, b) × Kind b × (low ≤ id.birth)
  walk_there low [] k id walk is = absurd (none-some id is)
  walk_there low (x ∷ ids) zero id walk is = rw (← same_Some x id is) (walk.0.bound, walk.0.there, walk.0.kind, walk.0.above)
  walk_there low (x ∷ ids) (suc k) id walk is =
      let rest = walk_there (x.birth + 1) ids k id walk.1 is in
      (rest.0, rest.1, rest.2, omega (arith, walk.0.above, rest.3))

  -- births ascend along a walk
  pub walk_ascends : (low : ℕ) (ids : List SlotId) (j k : ℕ) (earlier later : SlotId) → IsWalkOfSlots table Kind low ids → slice_get ids j ≡ Some earlier → slice_get ids k ≡ Some later → j < k → earlier.birth < later.birth
  walk_ascends low [] j k earlier later walk is next less = absurd (none-some earlier is)
  walk_ascends low (x ∷ ids) zero zero earlier later walk is next less = absurd (omega (arith, less))
  walk_ascends low (x ∷ ids) zero (suc k) earlier later walk is next less =
      let rest = walk_there (x.birth + 1) ids k later walk.1 next in
      rw (← same_Some x earlier is) (omega (arith, rest.3))
  walk_ascends low (x ∷ ids) (suc j) zero earlier later walk is next less = absurd (omega (arith, less))
  walk_ascends low (x ∷ ids) (suc j) (suc k) earlier later walk is next less = walk_ascends (x.birth + 1) ids j k earlier later walk.1 is next (omega (arith, less))

  -- a walk meets each entry of the kind with a birth from `low` on
  pub walk_meets : (nodes low : ℕ) (ids : List SlotId) (slot birth : ℕ) (b : Bound) → IsMinimal nodes table → IsWalkOfSlots table Kind low ids → IsPlaced table slot (birth, b) → Kind b → low ≤ birth → (k : ℕ) × (slice_get ids k ≡ Some (record { slot = slot; birth = birth }))
  walk_meets nodes low [] slot birth b minimal walk placed kind from = absurd (omega (arith, from, walk slot (birth, b) placed kind))
  walk_meets nodes low (x ∷ ids) slot birth b minimal walk placed kind from = elim (walk.0.least slot (birth, b) placed kind) [
    | inl below ↦ absurd (omega (arith, from, below))
    | inr above ↦ elim (cases_eq x.birth birth) [
      | inl same ↦ (let here : x.slot ≡ slot = minimal.apart x.slot slot (x.birth, walk.0.bound) (birth, b) walk.0.there placed same in (zero, rw (← here, ← same) refl))
      | inr other ↦ (let rest = walk_meets nodes (x.birth + 1) ids slot birth b minimal walk.1 placed kind (omega (arith, above, other)) in (suc rest.0, rest.1))
    ]
  ]

  -- a walk has at most as many ids as there are slots
  pub walk_within : (low : ℕ) (ids : List SlotId) → IsWalkOfSlots table Kind low ids → length ids ≤ length table
  walk_within low ids walk =
      let few = ids_within table ids (λ k id is. let found = walk_there low ids k id walk is in (found.0, found.1)) (λ j k earlier later a b less. walk_ascends low ids j k earlier later walk a b less) in
      omega (arith, few, count_by-le-length is_some table)
