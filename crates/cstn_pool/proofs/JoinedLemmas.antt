-- Slots whose births and values are kept apart.
use Rattle.std.proofs.Common.{◌≡◌, ℕ, zero, suc, ◌-◌, ◌<◌, ◌≤◌, ◌^◌, nat_eq, nat_lt, false, true, List, [], ◌∷◌, ◌++◌, length, get_or, set, replicate, Option, None, Some, cond, refl, ap, sym, ◌∙◌, subst, arith}
use Rattle.std.specs.Prelude.{Bool, slice_get, IsSome}
use Rattle.std.proofs.lemmas.Option.{none-some, same_Some, slice_get-get_or, slice_get_past}
use Rattle.cstn_pool.specs.Slots.{Slots, no_birth, entry_of, joined_slots, held, value_at}
use Rattle.cstn_pool.proofs.PaddedLemmas.{padded_at, padded_length, shown}

-- a birth that was given is that of a value
pub entry_born : {T : Type 0} (birth : ℕ) (value : T) → birth < 2 ^ 63 → entry_of birth value ≡ Some (birth, value)
entry_born birth value less =
    let differ : nat_eq birth no_birth ≡ false = grind arith in
    ap (λ b. cond b None (Some (birth, value))) differ

pub joined_length : {T : Type 0} (born : List ℕ) (values : List T) → length born ≡ length values → length (joined_slots born values) ≡ length born
joined_length [] values same = refl
joined_length (b ∷ born) [] same = absurd (omega (arith, same))
joined_length (b ∷ born) (v ∷ values) same = let rest = joined_length born values (omega (arith, same)) in omega (arith, rest)

-- writing a birth and a value writes what the slot holds
pub joined_set : {T : Type 0} (born : List ℕ) (values : List T) (slot birth : ℕ) (value : T) → length born ≡ length values → joined_slots (set born slot birth) (set values slot value) ≡ set (joined_slots born values) slot (entry_of birth value)
joined_set [] values slot birth value same = refl
joined_set (b ∷ born) [] slot birth value same = absurd (omega (arith, same))
joined_set (b ∷ born) (v ∷ values) zero birth value same = refl
joined_set (b ∷ born) (v ∷ values) (suc slot) birth value same = ap (λ xs. entry_of b v ∷ xs) (joined_set born values slot birth value (omega (arith, same)))

-- writing that a slot has no birth empties it
pub joined_freed : {T : Type 0} (born : List ℕ) (values : List T) (slot : ℕ) → length born ≡ length values → joined_slots (set born slot no_birth) values ≡ set (joined_slots born values) slot None
joined_freed [] values slot same = refl
joined_freed (b ∷ born) [] slot same = absurd (omega (arith, same))
joined_freed (b ∷ born) (v ∷ values) zero same = refl
joined_freed (b ∷ born) (v ∷ values) (suc slot) same = ap (λ xs. entry_of b v ∷ xs) (joined_freed born values slot (omega (arith, same)))

pub joined_push : {T : Type 0} (born : List ℕ) (values : List T) (birth : ℕ) (value : T) → length born ≡ length values → joined_slots (born ++ birth ∷ []) (values ++ value ∷ []) ≡ joined_slots born values ++ entry_of birth value ∷ []
joined_push [] [] birth value same = refl
joined_push [] (v ∷ values) birth value same = absurd (omega (arith, same))
joined_push (b ∷ born) [] birth value same = absurd (omega (arith, same))
joined_push (b ∷ born) (v ∷ values) birth value same = ap (λ xs. entry_of b v ∷ xs) (joined_push born values birth value (omega (arith, same)))

-- a slot holds a value of the birth that is asked for where that is its own birth, and not the one that stands for none
pub value_there : {T : Type 0} (born : List ℕ) (values : List T) (slot asked b : ℕ) (v : T) → slice_get born slot ≡ Some b → slice_get values slot ≡ Some v → nat_eq b asked ≡ true → nat_eq b no_birth ≡ false → value_at (joined_slots born values) slot asked ≡ Some v
value_there [] values slot asked b v one other same known = absurd (none-some b one)
value_there (x ∷ born) [] slot asked b v one other same known = absurd (none-some v other)
value_there (x ∷ born) (y ∷ values) zero asked b v one other same known = rw (same_Some x b one, same_Some y v other, known, same) refl
value_there (x ∷ born) (y ∷ values) (suc slot) asked b v one other same known = value_there born values slot asked b v one other same known

-- and no value where it isn't, or is the one that stands for none
pub value_of_another : {T : Type 0} (born : List ℕ) (values : List T) (slot asked b : ℕ) → slice_get born slot ≡ Some b → nat_eq b asked ≡ false → value_at (joined_slots born values) slot asked ≡ None
value_of_another [] values slot asked b one other = absurd (none-some b one)
value_of_another (x ∷ born) [] slot asked b one other = refl
value_of_another {T} (x ∷ born) (y ∷ values) zero asked b one other = rw (same_Some x b one) (go (nat_eq b no_birth))
  where
    go : (t : Bool) → held {T = T} asked (Some (cond t None (Some (b, y)))) ≡ None
    go true = refl
    go false = rw other refl
value_of_another (x ∷ born) (y ∷ values) (suc slot) asked b one other = value_of_another born values slot asked b one other

pub value_of_none : {T : Type 0} (born : List ℕ) (values : List T) (slot asked b : ℕ) → slice_get born slot ≡ Some b → nat_eq b no_birth ≡ true → value_at (joined_slots born values) slot asked ≡ None
value_of_none [] values slot asked b one free = absurd (none-some b one)
value_of_none (x ∷ born) [] slot asked b one free = refl
value_of_none (x ∷ born) (y ∷ values) zero asked b one free = rw (same_Some x b one, free) refl
value_of_none (x ∷ born) (y ∷ values) (suc slot) asked b one free = value_of_none born values slot asked b one free

pub value_past : {T : Type 0} (born : List ℕ) (values : List T) (slot asked : ℕ) → slice_get born slot ≡ None → value_at (joined_slots born values) slot asked ≡ None
value_past [] values slot asked none = refl
value_past (x ∷ born) [] slot asked none = refl
value_past (x ∷ born) (y ∷ values) zero asked none = absurd (none-some x (sym none))
value_past (x ∷ born) (y ∷ values) (suc slot) asked none = value_past born values slot asked none

-- a slot that holds a value was used, and has its birth and its value
pub record IsHeld {T : Type 0} (born : List ℕ) (values : List T) (slots : List (Option (ℕ × T))) (slot : ℕ) : Type 0 where
  pub birth : ℕ
  pub value : T
  pub born_is : slice_get born slot ≡ Some birth
  pub value_is : slice_get values slot ≡ Some value
  pub there : get_or slots slot None ≡ Some (birth, value)

held_in : {T : Type 0} (born : List ℕ) (values : List T) (slot : ℕ) → IsSome (get_or (joined_slots born values) slot None) → IsHeld born values (joined_slots born values) slot
held_in [] values slot some = cc
held_in (x ∷ born) [] slot some = cc
held_in {T} (x ∷ born) (y ∷ values) zero some = record { birth = x; value = y; born_is = refl; value_is = refl; there = go (nat_eq x no_birth) some }
  where
    go : (t : Bool) → IsSome (cond {A = Option (ℕ × T)} t None (Some (x, y))) → cond {A = Option (ℕ × T)} t None (Some (x, y)) ≡ Some (x, y)
    go true some = cc
    go false some = refl
held_in (x ∷ born) (y ∷ values) (suc slot) some =
    let rest = held_in born values slot some in
    record { birth = rest.birth; value = rest.value; born_is = rest.born_is; value_is = rest.value_is; there = rest.there }

pub shown_held : {T : Type 0} (n births slot : ℕ) (born : List ℕ) (values : List T) (now : Slots T) → shown n (joined_slots born values) births ≡ now → IsSome (get_or now.slots slot None) → IsHeld born values now.slots slot
shown_held {T} n births slot born values now view some =
    let at : get_or now.slots slot None ≡ get_or (joined_slots born values) slot None = ap (λ (v : Slots T). get_or v.slots slot None) (sym view) ∙ padded_at None n slot (joined_slots born values) in
    let is = held_in born values slot (rw at at some) in
    record { birth = is.birth; value = is.value; born_is = is.born_is; value_is = is.value_is; there = at ∙ is.there }

-- a slot that is filled anew, and one more slot that is filled, where the birth was never given
pub refilled : {T : Type 0} (born : List ℕ) (values : List T) (slot birth : ℕ) (value : T) → length born ≡ length values → birth < 2 ^ 63 → joined_slots (set born slot birth) (set values slot value) ≡ set (joined_slots born values) slot (Some (birth, value))
refilled born values slot birth value same less = joined_set born values slot birth value same ∙ ap (λ x. set (joined_slots born values) slot x) (entry_born birth value less)

pub extended : {T : Type 0} (born : List ℕ) (values : List T) (birth : ℕ) (value : T) → length born ≡ length values → birth < 2 ^ 63 → joined_slots (born ++ birth ∷ []) (values ++ value ∷ []) ≡ joined_slots born values ++ Some (birth, value) ∷ []
extended born values birth value same less = joined_push born values birth value same ∙ ap (λ x. joined_slots born values ++ x ∷ []) (entry_born birth value less)

-- a pool that was emptied
pub shown_clear : {T : Type 0} (n births : ℕ) (used : List (Option (ℕ × T))) (now : Slots T) → shown n used births ≡ now → length used ≤ n → shown {T = T} n [] births ≡ record now { slots = replicate (length now.slots) None }
shown_clear {T} n births used now view within =
    subst (λ (v : Slots T). shown {T = T} n [] births ≡ record v { slots = replicate (length v.slots) None }) view
    (ap (λ k. record { slots = replicate {A = Option (ℕ × T)} k None; births = births }) (whole n ∙ sym (padded_length None n used within)))
  where
    whole : (k : ℕ) → k - 0 ≡ k
    whole k = omega arith

-- what is read at a place that the list has, and at one that it hasn't
pub got : (xs : List ℕ) (k x : ℕ) → true ≡ nat_lt k (length xs) → x ≡ get_or xs k x → slice_get xs k ≡ Some x
got xs k x inside at =
    let less : k < length xs = grind arith in
    rw (← at) at (slice_get-get_or xs k x less)

pub past : (xs : List ℕ) (k : ℕ) → false ≡ nat_lt k (length xs) → slice_get xs k ≡ None
past xs k outside = slice_get_past xs k (grind arith)
