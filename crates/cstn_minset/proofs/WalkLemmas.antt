-- Each time-point has one walk.
use Rattle.std.proofs.Common.{◌≡◌, ◌⊎◌, inl, inr, ℕ, zero, suc, ◌+◌, ◌<◌, ◌≤◌, List, [], ◌∷◌, length, refl, sym, ap, ◌∙◌, subst, arith}
use Rattle.std.specs.Prelude.{Option, Some, None}
use Rattle.std.proofs.lemmas.Bool.{cases_eq, cases_lt}
use Rattle.std.proofs.lemmas.Option.{none-some, same_Some}
use Rattle.cstn_label.specs.declared.bounds.Bound.{Bound}
use Rattle.cstn_pool.specs.declared.slot_id.SlotId.{SlotId}
use Rattle.cstn_minset.specs.Sets.{Entries, entry_at, IsPlaced, AllBornBefore, IsAt, IsLeastSlot, IsNone, IsWalkOfSlots, IsMinimal}
use Rattle.cstn_minset.proofs.TableLemmas.{placed_within}

module _ (table : Entries) (Kind : Bound → Type 0) (decide : (b : Bound) → Kind b ⊎ (Kind b → ⊥)) (low : ℕ) where
  -- of the first n slots, this one has the bound of the kind with the least birth from `low` on
  record LeastBelow (n : ℕ) : Type 0 where
    slot : ℕ
    birth : ℕ
    bound : Bound
    there : IsPlaced table slot (birth, bound)
    kind : Kind bound
    above : low ≤ birth
    least : (u : ℕ) (e : ℕ × Bound) → u < n → IsPlaced table u e → Kind e.1 → (e.0 < low) ⊎ (birth ≤ e.0)

  abbrev NoneBelow : ℕ → Type 0
  NoneBelow n = (u : ℕ) (e : ℕ × Bound) → u < n → IsPlaced table u e → Kind e.1 → e.0 < low

  -- what holds of the first n slots and of the next holds of one more
  one_more : (n : ℕ) (P : ℕ × Bound → Type 0) → ((u : ℕ) (e : ℕ × Bound) → u < n → IsPlaced table u e → Kind e.1 → P e) →
      ((e : ℕ × Bound) → IsPlaced table n e → Kind e.1 → P e) → (u : ℕ) (e : ℕ × Bound) → u < suc n → IsPlaced table u e → Kind e.1 → P e
  one_more n P before here u e less is kind = elim (cases_eq u n) [
    | inl same ↦ here e (subst (λ m. IsPlaced table m e) same is) kind
    | inr other ↦ before u e (omega (arith, less, other)) is kind
  ]

  alone : (n : ℕ) (x : ℕ × Bound) → IsPlaced table n x → (P : ℕ × Bound → Type 0) → (Kind x.1 → P x) → (e : ℕ × Bound) → IsPlaced table n e → Kind e.1 → P e
  alone n x at P holds e is kind =
      let same : x ≡ e = same_Some x e (sym at ∙ is) in
      subst (λ (y : ℕ × Bound). Kind y.1 → P y) same holds kind

  skips : (n : ℕ) → ((e : ℕ × Bound) → IsPlaced table n e → Kind e.1 → e.0 < low) → LeastBelow n ⊎ NoneBelow n → LeastBelow (suc n) ⊎ NoneBelow (suc n)
  skips n here (inl found) = inl (record {
    slot = found.slot;
    birth = found.birth;
    bound = found.bound;
    there = found.there;
    kind = found.kind;
    above = found.above;
    least = one_more n (λ e. (e.0 < low) ⊎ (found.birth ≤ e.0)) found.least (λ e is kind. inl (here e is kind));
  })
  skips n here (inr none) = inr (one_more n (λ e. e.0 < low) none here)

  -- the bound in slot n is of the kind, and has a birth from `low` on
  takes : (n birth : ℕ) (b : Bound) → IsPlaced table n (birth, b) → Kind b → low ≤ birth → LeastBelow n ⊎ NoneBelow n → LeastBelow (suc n)
  takes n birth b at kind above (inr none) = record {
    slot = n;
    birth = birth;
    bound = b;
    there = at;
    kind = kind;
    above = above;
    least = one_more n (λ e. (e.0 < low) ⊎ (birth ≤ e.0)) (λ u e less is k. inl (none u e less is k))
        (alone n (birth, b) at (λ e. (e.0 < low) ⊎ (birth ≤ e.0)) (λ k. inr (omega arith)));
  }
  takes n birth b at kind above (inl found) = elim (cases_lt birth found.birth) [
    | inl less ↦ record {
      slot = n;
      birth = birth;
      bound = b;
      there = at;
      kind = kind;
      above = above;
      least = one_more n (λ e. (e.0 < low) ⊎ (birth ≤ e.0)) (λ u e inside is k. elim (found.least u e inside is k) [ inl x ↦ inl x | inr y ↦ inr (omega (arith, less, y)) ])
          (alone n (birth, b) at (λ e. (e.0 < low) ⊎ (birth ≤ e.0)) (λ k. inr (omega arith)));
    }
    | inr upto ↦ record {
      slot = found.slot;
      birth = found.birth;
      bound = found.bound;
      there = found.there;
      kind = found.kind;
      above = found.above;
      least = one_more n (λ e. (e.0 < low) ⊎ (found.birth ≤ e.0)) found.least
          (alone n (birth, b) at (λ e. (e.0 < low) ⊎ (found.birth ≤ e.0)) (λ k. inr upto));
    }
  ]

  one_slot : (n : ℕ) (o : Option (ℕ × Bound)) → entry_at table n ≡ o → LeastBelow n ⊎ NoneBelow n → LeastBelow (suc n) ⊎ NoneBelow (suc n)
  one_slot n None at before = skips n (λ e is kind. absurd (none-some e (sym at ∙ is))) before
  one_slot n (Some x) at before = elim (decide x.1) [
    | inr other ↦ skips n (alone n x at (λ e. e.0 < low) (λ kind. absurd (other kind))) before
    | inl kind ↦ elim (cases_lt x.0 low) [
      | inl below ↦ skips n (alone n x at (λ e. e.0 < low) (λ k. below)) before
      | inr above ↦ inl (takes n x.0 x.1 at kind above before)
    ]
  ]

  least_below : (n : ℕ) → LeastBelow n ⊎ NoneBelow n
  least_below zero = inr (λ u e less is kind. absurd (omega (arith, less)))
  least_below (suc n) = one_slot n (entry_at table n) refl (least_below n)

  -- the bound of the kind with the least birth from `low` on is found, unless there is none
  pub least_or_none : ((id : SlotId) × IsLeastSlot table Kind low id.slot id.birth) ⊎ IsNone table Kind low
  least_or_none = elim (least_below (length table)) [
    | inl found ↦ inl (
      record { slot = found.slot; birth = found.birth },
      record {
        bound = found.bound;
        there = found.there;
        kind = found.kind;
        above = found.above;
        least = λ u e is kind. found.least u e (placed_within table u e is) is kind;
      },
    )
    | inr none ↦ inr (λ u e is kind. none u e (placed_within table u e is) is kind)
  ]

module _ (table : Entries) (Kind : Bound → Type 0) (decide : (b : Bound) → Kind b ⊎ (Kind b → ⊥)) where
  -- where all births are below `low` + n, there is a walk
  walk_upto : (n low : ℕ) → AllBornBefore table (low + n) → (ids : List SlotId) × IsWalkOfSlots table Kind low ids
  walk_upto zero low born = ([], λ u e is kind. omega (arith, born u e is))
  walk_upto (suc n) low born = elim (least_or_none table Kind decide low) [
    | inr none ↦ ([], none)
    | inl found ↦
        let above = found.1.above in
        let rest = walk_upto n (found.0.birth + 1) (λ u e is. omega (arith, above, born u e is)) in
        (found.0 ∷ rest.0, (found.1, rest.1))
  ]

  pub walk_exists : (most : ℕ) → AllBornBefore table most → (ids : List SlotId) × IsWalkOfSlots table Kind 0 ids
  walk_exists most born = walk_upto most 0 (λ u e is. omega (arith, born u e is))

-- whether a bound is at the time-point
pub at_or_not : (node : ℕ) (b : Bound) → IsAt node b ⊎ (IsAt node b → ⊥)
at_or_not node b = elim (cases_eq b.node.0 node) [ inl same ↦ inl same | inr other ↦ inr other ]

same_id : (a b : SlotId) → a.slot ≡ b.slot → a.birth ≡ b.birth → a ≡ b
same_id a b slot birth = ap (λ (s : ℕ). as_id s a.birth) slot ∙ ap (λ n. as_id b.slot n) birth
  where
    as_id : ℕ → ℕ → SlotId
    as_id s n = record { slot = s; birth = n }

module _ (nodes : ℕ) (table : Entries) (Kind : Bound → Type 0) (minimal : IsMinimal nodes table) where
  -- the least one is no later than another that is the least
  no_later : (low s t m n : ℕ) → IsLeastSlot table Kind low s m → IsLeastSlot table Kind low t n → m ≤ n
  no_later low s t m n one other =
      let above = other.above in
      elim (one.least t (n, other.bound) other.there other.kind) [ inl below ↦ absurd (omega (arith, below, above)) | inr upto ↦ upto ]

  one_least : (low : ℕ) (a b : SlotId) → IsLeastSlot table Kind low a.slot a.birth → IsLeastSlot table Kind low b.slot b.birth → a ≡ b
  one_least low a b one other =
      let birth : a.birth ≡ b.birth = omega (arith, no_later low a.slot b.slot a.birth b.birth one other, no_later low b.slot a.slot b.birth a.birth other one) in
      same_id a b (minimal.apart a.slot b.slot (a.birth, one.bound) (b.birth, other.bound) one.there other.there birth) birth

  least_not_none : (low s n : ℕ) → IsLeastSlot table Kind low s n → IsNone table Kind low → ⊥
  least_not_none low s n one none =
      let above = one.above in
      omega (arith, above, none s (n, one.bound) one.there one.kind)

  pub one_walk : (low : ℕ) (ids others : List SlotId) → IsWalkOfSlots table Kind low ids → IsWalkOfSlots table Kind low others → ids ≡ others
  one_walk low [] [] walk other = refl
  one_walk low [] (y ∷ others) walk other = absurd (least_not_none low y.slot y.birth other.0 walk)
  one_walk low (x ∷ ids) [] walk other = absurd (least_not_none low x.slot x.birth walk.0 other)
  one_walk low (x ∷ ids) (y ∷ others) walk other =
      let same : x ≡ y = one_least low x y walk.0 other.0 in
      let rest = one_walk (x.birth + 1) ids others walk.1 (subst (λ (z : SlotId). IsWalkOfSlots table Kind (z.birth + 1) others) (sym same) other.1) in
      ap (λ z. z ∷ ids) same ∙ ap (λ l. y ∷ l) rest
