-- Lists that blanks fill up to a count, as empty slots fill the used ones of a pool up to its capacity.
use Rattle.std.proofs.Common.{◌≡◌, ℕ, zero, suc, ◌+◌, ◌-◌, ◌<◌, ◌≤◌, List, [], ◌∷◌, ◌++◌, length, get_or, set, take, replicate, cond, refl, ap, sym, ◌∙◌, subst, arith, length-append, append_assoc}
use Rattle.std.specs.Prelude.{Option, None, Some, is_some, slice_get}
use Rattle.std.proofs.lemmas.List.{length-replicate, length-set, set-append_left, take_all, replicate-append-replicate}
use Rattle.std.proofs.lemmas.List.Sums.{sum_by-append}
use Rattle.std.proofs.lemmas.Option.{slice_get-get_or}
use Rattle.std.proofs.Math.Seq.{set-append_seam}
use Rattle.cstn_pool.specs.Slots.{Slots, IsFree, IsBorn, live_of, padded, value_at}
use Rattle.cstn_pool.proofs.PoolLemmas.{none_live}

pub padded_length : {A : Type 0} (blank : A) (n : ℕ) (written : List A) → length written ≤ n → length (padded blank n written) ≡ n
padded_length blank n written within =
    omega (arith, length-append written (replicate (n - length written) blank), length-replicate (n - length written) blank)

blank_at : {A : Type 0} (blank : A) (k i : ℕ) → get_or (replicate k blank) i blank ≡ blank
blank_at blank zero i = refl
blank_at blank (suc k) zero = refl
blank_at blank (suc k) (suc i) = blank_at blank k i

appended_at : {A : Type 0} (blank : A) (k i : ℕ) (written : List A) → get_or (written ++ replicate k blank) i blank ≡ get_or written i blank
appended_at blank k i [] = blank_at blank k i
appended_at blank k zero (x ∷ written) = refl
appended_at blank k (suc i) (x ∷ written) = appended_at blank k i written

-- past what was written stands a blank
pub padded_at : {A : Type 0} (blank : A) (n i : ℕ) (written : List A) → get_or (padded blank n written) i blank ≡ get_or written i blank
padded_at blank n i written = appended_at blank (n - length written) i written

-- writing over what was written writes it in the filled-up list
pub padded_set : {A : Type 0} (blank : A) (n i : ℕ) (x : A) (written : List A) → i < length written → padded blank n (set written i x) ≡ set (padded blank n written) i x
padded_set blank n i x written inside =
    rw (length-set written i x) (sym (set-append_left written (replicate (n - length written) blank) i x inside))

join : {A : Type 0} (x : A) (xs ys : List A) → (xs ++ x ∷ []) ++ ys ≡ xs ++ x ∷ ys
join x [] ys = refl
join x (y ∷ xs) ys = ap (λ zs. y ∷ zs) (join x xs ys)

-- appending to what was written writes over the first blank in the filled-up list
pub padded_push : {A : Type 0} (blank : A) (n : ℕ) (x : A) (written : List A) → length written < n → padded blank n (written ++ x ∷ []) ≡ set (padded blank n written) (length written) x
padded_push blank n x written inside = go (n - length written) (n - length (written ++ x ∷ [])) (omega (arith, length-append written (x ∷ [])))
  where
    go : (m k : ℕ) → m ≡ suc k → (written ++ x ∷ []) ++ replicate k blank ≡ set (written ++ replicate m blank) (length written) x
    go m k e = rw e (join x written (replicate k blank) ∙ sym (set-append_seam written blank (replicate k blank) x))

-- writing some of the blanks leaves the filled-up list as it is
pub padded_more : {A : Type 0} (blank : A) (n m : ℕ) (written : List A) → m ≤ n → length written ≤ m → padded blank n (take m written ++ replicate (m - length written) blank) ≡ padded blank n written
padded_more blank n m written within more =
    let all : take m written ≡ written = take_all m written more in
    let size : length (written ++ replicate (m - length written) blank) ≡ m = omega (arith, length-append written (replicate (m - length written) blank), length-replicate (m - length written) blank) in
    let count : n - length (written ++ replicate (m - length written) blank) ≡ n - m = ap (λ k. n - k) size in
    let rest : (m - length written) + (n - m) ≡ n - length written = omega arith in
    rw (all, count) (append_assoc written (replicate (m - length written) blank) (replicate (n - m) blank) ∙ ap (λ xs. written ++ xs) (replicate-append-replicate (m - length written) (n - m) blank ∙ ap (λ k. replicate k blank) rest))

-- a place is written in the filled-up list, whether or not it was written before
pub padded_write : {A : Type 0} (blank : A) (n m i : ℕ) (x : A) (written : List A) → m ≤ n → length written ≤ m → i < m → padded blank n (set (take m written ++ replicate (m - length written) blank) i x) ≡ set (padded blank n written) i x
padded_write blank n m i x written within more inside =
    let size : length (take m written ++ replicate (m - length written) blank) ≡ m = rw (take_all m written more) (padded_length blank m written more) in
    padded_set blank n i x (take m written ++ replicate (m - length written) blank) (omega (arith, size)) ∙ ap (λ ys. set ys i x) (padded_more blank n m written within more)

-- an empty pool holds no value
pub none_held : {T : Type 0} (k slot birth : ℕ) → value_at {T = T} (replicate k None) slot birth ≡ None
none_held zero slot birth = refl
none_held (suc k) zero birth = refl
none_held (suc k) (suc slot) birth = none_held k slot birth

appended_value : {T : Type 0} (k slot birth : ℕ) (used : List (Option (ℕ × T))) → value_at (used ++ replicate k None) slot birth ≡ value_at used slot birth
appended_value k slot birth [] = none_held k slot birth
appended_value k zero birth (x ∷ used) = refl
appended_value k (suc slot) birth (x ∷ used) = appended_value k slot birth used

pub padded_value : {T : Type 0} (n slot birth : ℕ) (used : List (Option (ℕ × T))) → value_at (padded None n used) slot birth ≡ value_at used slot birth
padded_value n slot birth used = appended_value (n - length used) slot birth used

pub padded_live : {T : Type 0} (n : ℕ) (used : List (Option (ℕ × T))) → live_of (padded None n used) ≡ live_of used
padded_live {T} n used =
    omega (arith, sum_by-append (λ x. cond (is_some x) 1 0) used (replicate {A = Option (ℕ × T)} (n - length used) None), none_live T (n - length used))

-- births that are in order in the used slots are so in all slots
pub padded_born : {T : Type 0} (n births : ℕ) (used : List (Option (ℕ × T))) → IsBorn births used → IsBorn births (padded None n used)
padded_born n births used born = record {
  before = λ i e is. born.before i e (sym (padded_at None n i used) ∙ is);
  apart = λ i j e f is others same. born.apart i j e f (sym (padded_at None n i used) ∙ is) (sym (padded_at None n j used) ∙ others) same;
}

-- past the used slots there is nothing
pub past_used : {T : Type 0} (used : List (Option (ℕ × T))) → get_or used (length used) None ≡ None
past_used [] = refl
past_used (x ∷ used) = past_used used

-- what contracts see of used slots
abbrev pub shown : {T : Type 0} → ℕ → List (Option (ℕ × T)) → ℕ → Slots T
shown n used births = record { slots = padded None n used; births = births }

pub shown_empty : {T : Type 0} (n births slot : ℕ) (used : List (Option (ℕ × T))) (now : Slots T) → shown n used births ≡ now → slot < n → length used ≤ n → get_or used slot None ≡ None → slice_get now.slots slot ≡ Some None
shown_empty {T} n births slot used now view inside within none =
    subst (λ (v : Slots T). slice_get v.slots slot ≡ Some None) view
    (slice_get-get_or (padded None n used) slot None (omega (arith, padded_length None n used within)) ∙ ap (λ x. Some x) (padded_at None n slot used ∙ none))

-- the slots in use, those that came back and those that were never used are all the slots
pub shown_count : {T : Type 0} (n births : ℕ) (used : List (Option (ℕ × T))) (free : List ℕ) (now : Slots T) → shown n used births ≡ now → length used ≤ n → IsFree used free → live_of now.slots + length free + n ≡ length now.slots + length used
shown_count {T} n births used free now view within is =
    subst (λ (v : Slots T). live_of v.slots + length free + n ≡ length v.slots + length used) view
    (omega (arith, padded_live n used, padded_length None n used within, is.count))

pub shown_taken : {T : Type 0} (n births slot : ℕ) (value : T) (used : List (Option (ℕ × T))) (now : Slots T) → shown n used births ≡ now → slot < length used → shown n (set used slot (Some (births, value))) (births + 1) ≡ record { slots = set now.slots slot (Some (births, value)); births = now.births + 1 }
shown_taken {T} n births slot value used now view inside =
    subst (λ (v : Slots T). shown n (set used slot (Some (births, value))) (births + 1) ≡ record { slots = set v.slots slot (Some (births, value)); births = v.births + 1 }) view
    (ap (λ s. record { slots = s; births = births + 1 }) (padded_set None n slot (Some (births, value)) used inside))

pub shown_new : {T : Type 0} (n births : ℕ) (value : T) (used : List (Option (ℕ × T))) (now : Slots T) → shown n used births ≡ now → length used < n → shown n (used ++ Some (births, value) ∷ []) (births + 1) ≡ record { slots = set now.slots (length used) (Some (births, value)); births = now.births + 1 }
shown_new {T} n births value used now view inside =
    subst (λ (v : Slots T). shown n (used ++ Some (births, value) ∷ []) (births + 1) ≡ record { slots = set v.slots (length used) (Some (births, value)); births = v.births + 1 }) view
    (ap (λ s. record { slots = s; births = births + 1 }) (padded_push None n (Some (births, value)) used inside))

pub shown_given : {T : Type 0} (n births slot : ℕ) (used : List (Option (ℕ × T))) (now : Slots T) → shown n used births ≡ now → slot < length used → shown n (set used slot None) births ≡ record now { slots = set now.slots slot None }
shown_given {T} n births slot used now view inside =
    subst (λ (v : Slots T). shown n (set used slot None) births ≡ record v { slots = set v.slots slot None }) view
    (ap (λ s. record { slots = s; births = births }) (padded_set None n slot None used inside))

pub shown_value : {T : Type 0} (n births slot birth : ℕ) (used : List (Option (ℕ × T))) (now : Slots T) → shown n used births ≡ now → value_at used slot birth ≡ value_at now.slots slot birth
shown_value {T} n births slot birth used now view = subst (λ (v : Slots T). value_at used slot birth ≡ value_at v.slots slot birth) view (sym (padded_value n slot birth used))
