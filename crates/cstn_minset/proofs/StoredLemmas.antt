-- What slots hold, as their births and the records of the rows tell it.
use Rattle.std.proofs.Common.{◌≡◌, ◌≢◌, inl, inr, ℕ, zero, suc, ◌+◌, ◌<◌, List, [], ◌∷◌, length, get_or, set, Bool, true, false, nat_eq, cond, replicate, refl, ap, sym, ◌∙◌, subst, arith}
use Rattle.std.specs.Prelude.{Option, None, Some, All, sum_by, option_map, ◌↔◌, IsTrue, is_some, IsPermutation}
use Rattle.std.proofs.lemmas.Bool.{cases_eq}
use Rattle.std.proofs.lemmas.List.{get_or-set_other, get_or-set_same, length-set, length-replicate}
use Rattle.std.proofs.lemmas.Option.{none-some, same_Some}
use Rattle.cstn_label.specs.declared.bounds.Bound.{Bound}
use Rattle.cstn_minset.specs.declared.columns.Record.{Record}
use Rattle.cstn_minset.specs.Pages.{Paged, held_records, SameRows}
use Rattle.cstn_minset.specs.Sets.{Entries, entry_at, IsPlaced, record_of, bound_of, recorded, entries_from, entries_of, no_birth, birth_at, HasItsRecord, IsNoneInSlot, IsInSlot, IsMinimal, IsKeptSet, AreBirths, IsStored}
use Rattle.cstn_minset.proofs.TableLemmas.{placed_more, placed_less, none_of}
use Rattle.cstn_minset.proofs.SetLemmas.{all_cons, all_head, all_tail, at_slot, eq_or_not, weight_yes, weight_no, sum_zero, records_emptied, held_at, held_all, put_step, take_step, none_kept}

same_slot : (m n : ℕ) → nat_eq m n ≡ true → m ≡ n
same_slot m n is = grind arith

other_slot : (m n : ℕ) → nat_eq m n ≡ false → m ≢ n
other_slot m n is = λ same. grind arith

-- the bound that is found is that of a record of the slot
recorded_some : (P : ℕ × Record → Type 0) (s : ℕ) (xs : List (ℕ × Record)) (b : Bound) → All P xs → recorded s xs ≡ Some b → (x : ℕ × Record) × P x × (x.1.slot ≡ s) × (bound_of x ≡ b)
recorded_some P s [] b all is = absurd (none-some b is)
recorded_some P s (x ∷ xs) b all is = go (λ e. recorded_some P s xs b (all_tail P x xs all) e) (nat_eq x.1.slot s) refl is
  where
    go : (recorded s xs ≡ Some b → (y : ℕ × Record) × P y × (y.1.slot ≡ s) × (bound_of y ≡ b)) → (t : Bool) → nat_eq x.1.slot s ≡ t → cond t (Some (bound_of x)) (recorded s xs) ≡ Some b → (y : ℕ × Record) × P y × (y.1.slot ≡ s) × (bound_of y ≡ b)
    go rest true same e = (x, all_head P x xs all, same_slot x.1.slot s same, same_Some (bound_of x) b e)
    go rest false other e = rest e

-- where none is found, no record is of the slot
recorded_none : (s : ℕ) (xs : List (ℕ × Record)) → recorded s xs ≡ None → All (λ x. x.1.slot ≢ s) xs
recorded_none s [] is = λ k d inside. absurd (omega (arith, inside))
recorded_none s (x ∷ xs) is = go (λ e. recorded_none s xs e) (nat_eq x.1.slot s) refl is
  where
    go : (recorded s xs ≡ None → All (λ y. y.1.slot ≢ s) xs) → (t : Bool) → nat_eq x.1.slot s ≡ t → cond t (Some (bound_of x)) (recorded s xs) ≡ None → All (λ y. y.1.slot ≢ s) (x ∷ xs)
    go rest true same e = absurd (none-some (bound_of x) (sym e))
    go rest false other e = all_cons (λ y. y.1.slot ≢ s) x xs (other_slot x.1.slot s other) (rest e)

-- a slot of which there is no record holds nothing
slot_empty : (rows : Paged) (nodes s : ℕ) (T : Entries) → IsKeptSet rows nodes T → All (λ x. x.1.slot ≢ s) (held_records rows.pages) → entry_at T s ≡ None
slot_empty rows nodes s T is others = go (entry_at T s) refl
  where
    zero_plus : (n : ℕ) → 0 + n ≡ n
    zero_plus n = omega arith

    nothing : sum_by (at_slot s) (held_records rows.pages) ≡ 0
    nothing = sum_zero (at_slot s) (held_records rows.pages) (λ k d inside. weight_no (eq_or_not (get_or (held_records rows.pages) k d).1.slot s) (others k d inside))

    go : (o : Option (ℕ × Bound)) → entry_at T s ≡ o → entry_at T s ≡ None
    go None none = none
    go (Some e) placed =
        let one : at_slot s (record_of (0 + s) e.1) ≡ 1 = ap (λ m. at_slot s (record_of m e.1)) (zero_plus s) ∙ weight_yes (eq_or_not s s) refl in
        absurd (omega (arith, nothing, is.same (at_slot s), records_emptied (at_slot s) 0 s T e placed, one))

-- a bound whose record is of the slot is in it, under the slot's birth
listed_there : (births : List ℕ) (s : ℕ) (T : Entries) (x : ℕ × Record) (b : Bound) → AreBirths births T → HasItsRecord T x → x.1.slot ≡ s → bound_of x ≡ b → Some (birth_at births s, b) ≡ entry_at T s
listed_there births s T x b born listed slot bound =
    let birth : ℕ = listed.0 in
    let held_records : Bound = listed.1 in
    let same : held_records ≡ b = ap bound_of listed.3 ∙ bound in
    let placed : IsPlaced T s (birth, held_records) = subst (λ (u : ℕ). IsPlaced T u (birth, held_records)) slot listed.2 in
    ap (λ (n : ℕ). entry n b) (born.born s (birth, held_records) placed) ∙ ap (λ y. entry birth y) (sym same) ∙ sym placed
  where
    entry : ℕ → Bound → Option (ℕ × Bound)
    entry n y = Some (n, y)

-- what is told of a slot is what it holds
entry_told : (births : List ℕ) (rows : Paged) (nodes s : ℕ) (T : Entries) → IsStored births rows nodes T → option_map (λ b. (birth_at births s, b)) (recorded s (held_records rows.pages)) ≡ entry_at T s
entry_told births rows nodes s T is = go (recorded s (held_records rows.pages)) refl
  where
    go : (o : Option Bound) → recorded s (held_records rows.pages) ≡ o → option_map (λ b. (birth_at births s, b)) o ≡ entry_at T s
    go None none = sym (slot_empty rows nodes s T is.0 (recorded_none s (held_records rows.pages) none))
    go (Some b) some =
        let found = recorded_some (HasItsRecord T) s (held_records rows.pages) b is.0.listed some in
        listed_there births s T found.0 b is.1 found.1 found.2 found.3

entries_told : (rs : List (ℕ × Record)) (n : ℕ) (births : List ℕ) (T : Entries) → length births ≡ length T → ((s : ℕ) → option_map (λ b. (birth_at births s, b)) (recorded (n + s) rs) ≡ entry_at T s) → entries_from rs n births ≡ T
entries_told rs n [] [] size each = refl
entries_told rs n [] (x ∷ T) size each = absurd (omega (arith, size))
entries_told rs n (birth ∷ births) [] size each = absurd (omega (arith, size))
entries_told rs n (birth ∷ births) (x ∷ T) size each =
    let here : n ≡ n + 0 = omega arith in
    let first : option_map (λ b. (birth, b)) (recorded n rs) ≡ x = ap (λ m. option_map (λ b. (birth, b)) (recorded m rs)) here ∙ each 0 in
    let rest = entries_told rs (suc n) births T (omega (arith, size)) (λ s. ap (λ m. option_map (λ b. (birth_at births s, b)) (recorded m rs)) (next s) ∙ each (suc s)) in
    ap (λ h. h ∷ entries_from rs (suc n) births) first ∙ ap (λ t. x ∷ t) rest
  where
    next : (s : ℕ) → suc n + s ≡ n + suc s
    next s = omega arith

-- the table that is told is the one that is stored
pub determined : (births : List ℕ) (rows : Paged) (nodes : ℕ) (T : Entries) → IsStored births rows nodes T → entries_of births rows ≡ T
determined births rows nodes T is =
    entries_told (held_records rows.pages) 0 births T is.1.size (λ s. ap (λ m. option_map (λ b. (birth_at births s, b)) (recorded m (held_records rows.pages))) (zero_plus s) ∙ entry_told births rows nodes s T is)
  where
    zero_plus : (n : ℕ) → 0 + n ≡ n
    zero_plus n = omega arith

pub stored_as_told : (births : List ℕ) (rows : Paged) (nodes : ℕ) (T : Entries) → IsStored births rows nodes T → IsStored births rows nodes (entries_of births rows)
stored_as_told births rows nodes T is = subst (IsStored births rows nodes) (sym (determined births rows nodes T is)) is

-- the entry in a slot that has a record, and in one that has none
pub entry_in_slot : (births : List ℕ) (rows : Paged) (nodes s : ℕ) (T : Entries) (b : Bound) → IsStored births rows nodes T → IsInSlot rows.pages s b → Some (birth_at births s, b) ≡ entry_at T s
entry_in_slot births rows nodes s T b is found =
    listed_there births s T (found.head, found.record_is) b is.1 (held_at (HasItsRecord T) rows.pages found.head found.page found.place found.record_is is.0.listed found.there) found.slot_is (sym found.bound_is)

pub no_entry : (births : List ℕ) (rows : Paged) (nodes s : ℕ) (T : Entries) → IsStored births rows nodes T → IsNoneInSlot rows.pages s → None ≡ entry_at T s
no_entry births rows nodes s T is none = sym (slot_empty rows nodes s T is.0 (held_all (λ x. x.1.slot ≢ s) rows.pages (λ h k i r at. none h k i r at)))

-- a slot has a bound under its birth, unless that is the one that stands for none
pub there_by_birth : (births : List ℕ) (T : Entries) (s n : ℕ) → AreBirths births T → birth_at births s ≡ n → (n ≡ no_birth → ⊥) → (b : Bound) × IsPlaced T s (n, b)
there_by_birth births T s n is at known = go (entry_at T s) refl
  where
    go : (o : Option (ℕ × Bound)) → entry_at T s ≡ o → (b : Bound) × IsPlaced T s (n, b)
    go None none = absurd (known (sym at ∙ is.unborn s none))
    go (Some e) placed = (e.1, subst (λ (m : ℕ). IsPlaced T s (m, e.1)) (sym (is.born s e placed) ∙ at) placed)

pub there_by_entry : (births : List ℕ) (T : Entries) (s n : ℕ) → AreBirths births T → birth_at births s ≡ n → (IsTrue (is_some (entry_at T s)) ↔ ((b : Bound) × IsPlaced T s (n, b)))
there_by_entry births T s n is at = (some (entry_at T s) refl, λ there. rw there.1 refl)
  where
    some : (o : Option (ℕ × Bound)) → entry_at T s ≡ o → IsTrue (is_some o) → (b : Bound) × IsPlaced T s (n, b)
    some None none y = absurd (cc)
    some (Some e) placed y = (e.1, subst (λ (m : ℕ). IsPlaced T s (m, e.1)) (sym (is.born s e placed) ∙ at) placed)

pub another_birth : (births : List ℕ) (T : Entries) (s n : ℕ) → AreBirths births T → (birth_at births s ≡ n → ⊥) → ((b : Bound) × IsPlaced T s (n, b)) → ⊥
another_birth births T s n is other there = other (is.born s (n, there.0) there.1)

-- births when a slot is filled and when it is emptied
births_more : (births : List ℕ) (T : Entries) (slot birth : ℕ) (b : Bound) → AreBirths births T → slot < length T → AreBirths (set births slot birth) (set T slot (Some (birth, b)))
births_more births T slot birth b is inside = record {
  size = length-set births slot birth ∙ is.size ∙ sym (length-set T slot (Some (birth, b)));
  born = λ s e there.
      elim (placed_more T slot s (birth, b) e inside there) [
        | inl here ↦ ap (λ (u : ℕ). birth_at (set births slot birth) u) here.0 ∙ get_or-set_same births slot birth no_birth (omega (arith, inside, is.size)) ∙ ap (λ (x : ℕ × Bound). x.0) here.1
        | inr old ↦ get_or-set_other births slot s birth no_birth old.0 ∙ is.born s e old.1
      ];
  unborn = λ s none.
      elim (cases_eq s slot) [
        | inl same ↦ absurd (none-some (birth, b) (sym none ∙ ap (λ (u : ℕ). entry_at (set T slot (Some (birth, b))) u) same ∙ get_or-set_same T slot (Some (birth, b)) None inside))
        | inr other ↦ get_or-set_other births slot s birth no_birth other ∙ is.unborn s (sym (get_or-set_other T slot s (Some (birth, b)) None other) ∙ none)
      ];
}

gone : (births : List ℕ) (s : ℕ) → birth_at (set births s no_birth) s ≡ no_birth
gone [] s = refl
gone (x ∷ births) zero = refl
gone (x ∷ births) (suc s) = gone births s

births_less : (births : List ℕ) (T : Entries) (slot : ℕ) → AreBirths births T → AreBirths (set births slot no_birth) (set T slot None)
births_less births T slot is = record {
  size = length-set births slot no_birth ∙ is.size ∙ sym (length-set T slot None);
  born = λ s e there. (let old = placed_less T slot s e there in get_or-set_other births slot s no_birth no_birth old.0 ∙ is.born s e old.1);
  unborn = λ s none.
      elim (cases_eq s slot) [
        | inl same ↦ ap (λ (u : ℕ). birth_at (set births slot no_birth) u) same ∙ gone births slot
        | inr other ↦ get_or-set_other births slot s no_birth no_birth other ∙ is.unborn s (sym (get_or-set_other T slot s None None other) ∙ none)
      ];
}

all_unborn : (n s : ℕ) → birth_at (replicate n no_birth) s ≡ no_birth
all_unborn zero s = refl
all_unborn (suc n) zero = refl
all_unborn (suc n) (suc s) = all_unborn n s

births_none : (n : ℕ) → AreBirths (replicate n no_birth) (replicate n None)
births_none n = record {
  size = length-replicate n no_birth ∙ sym (length-replicate {A = Option (ℕ × Bound)} n None);
  born = λ s e there. absurd (none-some e (sym (none_of n s) ∙ there));
  unborn = λ s none. all_unborn n s;
}

-- a bound was put in, with its record, and one was taken out
pub stored_more : (births : List ℕ) (rows rows' : Paged) (nodes s birth : ℕ) (b : Bound) (T : Entries) → IsStored births rows nodes T → SameRows rows rows' → IsPermutation (record_of s b ∷ held_records rows.pages) (held_records rows'.pages) → s < length T → entry_at T s ≡ None → IsMinimal nodes (set T s (Some (birth, b))) → IsStored (set births s birth) rows' nodes (set T s (Some (birth, b)))
stored_more births rows rows' nodes s birth b T is sizes step inside free minimal = (put_step rows rows' nodes s birth b T is.0 sizes step inside free minimal, births_more births T s birth b is.1 inside)

pub stored_less : (births : List ℕ) (rows rows' : Paged) (nodes h : ℕ) (r : Record) (T : Entries) → IsStored births rows nodes T → SameRows rows rows' → IsPermutation (held_records rows.pages) ((h, r) ∷ held_records rows'.pages) → IsStored (set births r.slot no_birth) rows' nodes (set T r.slot None)
stored_less births rows rows' nodes h r T is sizes step = (take_step rows rows' nodes h r T is.0 sizes step, births_less births T r.slot is.1)

-- an empty set
pub none_stored : (rows : Paged) (nodes n : ℕ) → rows.heads ≡ nodes → rows.capacity ≡ n → held_records rows.pages ≡ [] → IsStored (replicate n no_birth) rows nodes (replicate n None)
none_stored rows nodes n heads room none = (none_kept rows nodes n heads room none, births_none n)
