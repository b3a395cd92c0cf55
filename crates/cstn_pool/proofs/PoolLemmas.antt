use Rattle.std.proofs.Common.{◌≡◌, ◌≢◌, ◌⊎◌, inl, inr, ℕ, ◌+◌, ◌<◌, List, [], ◌∷◌, ◌++◌, length, get_or, set, replicate, true, cond, zero, suc, refl, ap, sym, ◌∙◌, arith, length-append}
use Rattle.std.specs.Prelude.{Option, None, Some, is_some}
use Rattle.std.proofs.lemmas.List.{get_or_append_left, get_or-set_other, get_or-set_same, length-set}
use Rattle.std.proofs.lemmas.List.Elements.{All-push, All-weaker}
use Rattle.std.proofs.lemmas.List.Quantifiers.{all_pairs_push}
use Rattle.std.proofs.lemmas.List.Sums.{sum_by-set, sum_by-append}
use Rattle.std.proofs.Math.Seq.{get_or-append_seam}
use Rattle.std.proofs.lemmas.Bool.{cases_eq}
use Rattle.std.proofs.lemmas.Option.{same_Some}
use Rattle.cstn_pool.specs.Slots.{IsFree, IsBorn, live_of, value_at}

pub count_filled : {T : Type 0} (slots : List (Option (ℕ × T))) (slot : ℕ) (entry : ℕ × T) → slot < length slots → get_or slots slot None ≡ None → live_of (set slots slot (Some entry)) ≡ live_of slots + 1
count_filled slots slot entry inside none =
    let one : live_of (set slots slot (Some entry)) + cond (is_some (get_or slots slot None)) 1 0 ≡ live_of slots + 1 = sum_by-set (λ x. cond (is_some x) 1 0) slots slot (Some entry) None inside in
    let two = rw none at one in omega arith

pub count_emptied : {T : Type 0} (slots : List (Option (ℕ × T))) (slot : ℕ) → slot < length slots → is_some (get_or slots slot None) ≡ true → live_of (set slots slot None) + 1 ≡ live_of slots
count_emptied slots slot inside live =
    let one : live_of (set slots slot None) + cond (is_some (get_or slots slot None)) 1 0 ≡ live_of slots + 0 = sum_by-set (λ x. cond (is_some x) 1 0) slots slot None None inside in
    let two = rw live at one in omega arith

apart : {T : Type 0} (slots : List (Option (ℕ × T))) (i slot : ℕ) → get_or slots i None ≡ None → is_some (get_or slots slot None) ≡ true → i ≡ slot → ⊥
apart slots i slot none live e = let no = rw (← e, none) at live in cc

-- the free list is right after its last slot was taken
pub taken_free : {T : Type 0} (slots : List (Option (ℕ × T))) (rest : List ℕ) (slot : ℕ) (entry : ℕ × T) → IsFree slots (rest ++ slot ∷ []) → IsFree (set slots slot (Some entry)) rest
taken_free slots rest slot entry free =
    let long : length (rest ++ slot ∷ []) ≡ length rest + 1 = length-append rest (slot ∷ []) in
    let last : (d : ℕ) → get_or (rest ++ slot ∷ []) (length rest) d ≡ slot = λ d. get_or-append_seam rest slot [] d in
    let here : (k d : ℕ) → k < length rest → get_or (rest ++ slot ∷ []) k d ≡ get_or rest k d = λ k d inside. get_or_append_left rest (slot ∷ []) d k inside in
    let size : length (set slots slot (Some entry)) ≡ length slots = length-set slots slot (Some entry) in
    let was_last : (slot < length slots) × (get_or slots slot None ≡ None) = rw (last 0) at (free.empty (length rest) 0 (omega arith)) in
    record {
      empty = λ k d inside.
          let was : (get_or rest k d < length slots) × (get_or slots (get_or rest k d) None ≡ None) = rw (here k d inside) at (free.empty k d (omega arith)) in
          let other : get_or rest k d ≢ slot = λ e. free.distinct k (length rest) d inside (omega arith) (here k d inside ∙ e ∙ sym (last d)) in
          (omega (arith, was.0), get_or-set_other slots slot (get_or rest k d) (Some entry) None other ∙ was.1);
      distinct = λ i j d below inside e. free.distinct i j d below (omega arith) (here i d (omega arith) ∙ e ∙ sym (here j d inside));
      count = omega (arith, count_filled slots slot entry was_last.0 was_last.1, free.count);
    }

pub last_inside : {T : Type 0} (slots : List (Option (ℕ × T))) (rest : List ℕ) (slot : ℕ) → IsFree slots (rest ++ slot ∷ []) → slot < length slots
last_inside slots rest slot free =
    let long : length (rest ++ slot ∷ []) ≡ length rest + 1 = length-append rest (slot ∷ []) in
    let was = rw (get_or-append_seam rest slot [] 0) at (free.empty (length rest) 0 (omega arith)) in
    was.0

pub last_empty : {T : Type 0} (slots : List (Option (ℕ × T))) (rest : List ℕ) (slot : ℕ) → IsFree slots (rest ++ slot ∷ []) → get_or slots slot None ≡ None
last_empty slots rest slot free =
    let long : length (rest ++ slot ∷ []) ≡ length rest + 1 = length-append rest (slot ∷ []) in
    let was = rw (get_or-append_seam rest slot [] 0) at (free.empty (length rest) 0 (omega arith)) in
    was.1

-- the free list is right after a slot was given back
pub given_free : {T : Type 0} (slots : List (Option (ℕ × T))) (free : List ℕ) (slot : ℕ) → slot < length slots → is_some (get_or slots slot None) ≡ true → IsFree slots free → IsFree (set slots slot None) (free ++ slot ∷ [])
given_free slots free slot inside live is =
    let size : length (set slots slot None) ≡ length slots = length-set slots slot None in
    let other : (i : ℕ) → get_or slots i None ≡ None → i ≢ slot = λ i none e. apart slots i slot none live e in
    record {
      empty =
          All-push (λ i. (i < length (set slots slot None)) × (get_or (set slots slot None) i None ≡ None)) free slot
          (All-weaker (λ i. (i < length slots) × (get_or slots i None ≡ None)) (λ i. (i < length (set slots slot None)) × (get_or (set slots slot None) i None ≡ None))
          (λ i p. (omega (arith, p.0), get_or-set_other slots slot i None None (other i p.1) ∙ p.1)) free is.empty)
          (omega arith, get_or-set_same slots slot None None inside);
      distinct = all_pairs_push (λ i j. i ≢ j) free slot is.distinct (λ k d within. other (get_or free k d) (is.empty k d within).1);
      count = omega (arith, count_emptied slots slot inside live, is.count, length-append free (slot ∷ []), length-set slots slot None);
    }

none_there : (T : Type 0) (n i : ℕ) → get_or (replicate {A = Option (ℕ × T)} n None) i None ≡ None
none_there T zero i = refl
none_there T (suc n) zero = refl
none_there T (suc n) (suc i) = none_there T n i

pub none_live : (T : Type 0) (n : ℕ) → live_of {T = T} (replicate n None) ≡ 0
none_live T zero = refl
none_live T (suc n) = none_live T n

-- an empty free list is right where no slot was used yet
pub none_used : {T : Type 0} → IsFree {T = T} [] []
none_used {T} = record { empty = λ k d inside. absurd (omega arith); distinct = λ i j d below inside e. absurd (omega arith); count = refl }

-- an empty free list stays right after the first slot that was never used was taken
pub new_free : {T : Type 0} (slots : List (Option (ℕ × T))) (free rest : List ℕ) (entry : ℕ × T) → IsFree slots free → length free ≡ 0 → length rest ≡ 0 → IsFree (slots ++ Some entry ∷ []) rest
new_free {T} slots free rest entry is none no_more = record {
  empty = λ k d inside. absurd (omega (arith, inside, no_more));
  distinct = λ i j d below inside e. absurd (omega (arith, inside, no_more));
  count = omega (arith, is.count, none, no_more, length-append slots (Some entry ∷ []), sum_by-append (λ x. cond (is_some x) 1 0) slots (Some entry ∷ []));
}

-- a value that is found under an id stands in a slot in use
pub held_live : {T : Type 0} (slots : List (Option (ℕ × T))) (slot birth : ℕ) (v : T) → Some v ≡ value_at slots slot birth → (slot < length slots) × (is_some (get_or slots slot None) ≡ true)
held_live [] slot birth v is = absurd (cc)
held_live (None ∷ slots) zero birth v is = absurd (cc)
held_live (Some entry ∷ slots) zero birth v is = (omega arith, refl)
held_live (x ∷ slots) (suc slot) birth v is = let rest = held_live slots slot birth v is in (omega (arith, rest.0), rest.1)

-- where a slot is in use, the free list doesn't have every slot
pub room_left : {T : Type 0} (slots : List (Option (ℕ × T))) (free : List ℕ) (slot : ℕ) → slot < length slots → is_some (get_or slots slot None) ≡ true → IsFree slots free → length free < length slots
room_left slots free slot inside live is = omega (arith, count_emptied slots slot inside live, is.count)

none_set : {T : Type 0} (slots : List (Option (ℕ × T))) (slot : ℕ) (e : ℕ × T) → get_or (set slots slot None) slot None ≡ Some e → ⊥
none_set [] slot e is = cc
none_set (x ∷ slots) zero e is = cc
none_set (x ∷ slots) (suc slot) e is = none_set slots slot e is

kept_given : {T : Type 0} (slots : List (Option (ℕ × T))) (slot i : ℕ) (e : ℕ × T) → get_or (set slots slot None) i None ≡ Some e → get_or slots i None ≡ Some e
kept_given slots slot i e is =
    elim (cases_eq i slot) [ inl same ↦ absurd (none_set slots slot e (rw same at is)) | inr other ↦ sym (get_or-set_other slots slot i None None other) ∙ is ]

-- births stay different after a slot was given back
pub given_born : {T : Type 0} (births slot : ℕ) (slots : List (Option (ℕ × T))) → IsBorn births slots → IsBorn births (set slots slot None)
given_born births slot slots born = record {
  before = λ i e is. born.before i e (kept_given slots slot i e is);
  apart = λ i j e f is others same. born.apart i j e f (kept_given slots slot i e is) (kept_given slots slot j f others) same;
}

-- births stay different after a free slot was taken
pub taken_born : {T : Type 0} (births slot : ℕ) (value : T) (slots : List (Option (ℕ × T))) → slot < length slots → IsBorn births slots → IsBorn (births + 1) (set slots slot (Some (births, value)))
taken_born {T} births slot value slots inside born = record {
  before = λ i e is. elim (there i e is) [ inl new ↦ omega (arith, new.1) | inr old ↦ omega (arith, born.before i e old) ];
  apart = λ i j e f is others same.
      elim (there i e is) [
        | inl new ↦ elim (there j f others) [ inl also ↦ new.0 ∙ sym also.0 | inr old ↦ absurd (omega (arith, born.before j f old, new.1, same)) ]
        | inr old ↦ elim (there j f others) [ inl new ↦ absurd (omega (arith, born.before i e old, new.1, same)) | inr older ↦ born.apart i j e f old older same ]
      ];
}
  where
    there : (i : ℕ) (e : ℕ × T) → get_or (set slots slot (Some (births, value))) i None ≡ Some e → ((i ≡ slot) × (e.0 ≡ births)) ⊎ (get_or slots i None ≡ Some e)
    there i e is = elim (cases_eq i slot) [
      | inl same ↦ inl (same, let here : Some (births, value) ≡ Some e = sym (get_or-set_same slots slot (Some (births, value)) None inside) ∙ rw same at is in ap (λ p. p.0) (sym (same_Some (births, value) e here)))
      | inr other ↦ inr (sym (get_or-set_other slots slot i (Some (births, value)) None other) ∙ is)
    ]

-- births stay different after a slot that was never used was taken
pub new_born : {T : Type 0} (births : ℕ) (value : T) (slots : List (Option (ℕ × T))) → IsBorn births slots → IsBorn (births + 1) (slots ++ Some (births, value) ∷ [])
new_born {T} births value slots born = record {
  before = λ i e is. elim (there i e is) [ inl new ↦ omega (arith, new.1) | inr old ↦ omega (arith, born.before i e old) ];
  apart = λ i j e f is others same.
      elim (there i e is) [
        | inl new ↦ elim (there j f others) [ inl also ↦ new.0 ∙ sym also.0 | inr old ↦ absurd (omega (arith, born.before j f old, new.1, same)) ]
        | inr old ↦ elim (there j f others) [ inl new ↦ absurd (omega (arith, born.before i e old, new.1, same)) | inr older ↦ born.apart i j e f old older same ]
      ];
}
  where
    there : (i : ℕ) (e : ℕ × T) → get_or (slots ++ Some (births, value) ∷ []) i None ≡ Some e → ((i ≡ length slots) × (e.0 ≡ births)) ⊎ (get_or slots i None ≡ Some e)
    there i e is = go slots i is
      where
        go : (xs : List (Option (ℕ × T))) (k : ℕ) → get_or (xs ++ Some (births, value) ∷ []) k None ≡ Some e → ((k ≡ length xs) × (e.0 ≡ births)) ⊎ (get_or xs k None ≡ Some e)
        go [] zero is = inl (refl, ap (λ p. p.0) (sym (same_Some (births, value) e is)))
        go [] (suc k) is = inr is
        go (x ∷ xs) zero is = inr is
        go (x ∷ xs) (suc k) is = elim (go xs k is) [ inl new ↦ inl (omega (arith, new.0), new.1) | inr old ↦ inr old ]

-- births are in order where no slot is in use
pub none_born : {T : Type 0} (births : ℕ) (slots : List (Option (ℕ × T))) → ((i : ℕ) → get_or slots i None ≡ None) → IsBorn births slots
none_born births slots none = record {
  before = λ i e is. absurd (let n = none i in cc);
  apart = λ i j e f is others same. absurd (let n = none i in cc);
}

pub none_of : {T : Type 0} (n i : ℕ) → get_or (replicate {A = Option (ℕ × T)} n None) i None ≡ None
none_of {T} n i = none_there T n i
