-- The items of a list that pass a test, and the first place where one does.
use Rattle.std.proofs.Common.{ℕ, zero, suc, ◌≡◌, inl, inr, ◌+◌, ◌<◌, Bool, true, false, cond, ◌&&◌, List, [], ◌∷◌, ◌++◌, Some, None, length, get_or, map, take, arith, refl, subst, ap, ◌∙◌}
use Rattle.std.specs.Prelude.{◌||◌, nat_lt}
use Rattle.std.specs.List.{All, Contains, filter, list_any, position, position_or_len}
use Rattle.std.proofs.lemmas.Bool.{cases_Bool, cases_lt, cond-true, cond-false, lt-ltb}
use Rattle.std.proofs.lemmas.List.{append-nil, take_more}
use Rattle.std.proofs.lemmas.List.Elements.{All-head, All-tail, All-contains, All-contains_itself, All-filter, filter-append, filter_passes}
use Rattle.std.proofs.lemmas.List.Sums.{position_or_len_is, fails_before_first}
use Rattle.cstn_facts.proofs.Members.{contains_tail}

-- ---- one test

module _ {X : Type 0} (p : X → Bool) where
  -- an item that passes is one of those that pass
  pub filter_contains : (xs : List X) (x : X) → Contains xs x → p x ≡ true → Contains (filter p xs) x
  filter_contains [] x has passes = has
  filter_contains (y ∷ ys) x (zero, inside, at) passes = let t : p y ≡ true = ap p at ∙ passes in rw t (0, omega arith, at)
  filter_contains (y ∷ ys) x (suc k, inside, at) passes = behind (p y) (filter_contains ys x (k, omega arith, at) passes)
    where
      behind : (b : Bool) → Contains (filter p ys) x → Contains (cond b (y ∷ filter p ys) (filter p ys)) x
      behind true has = contains_tail y x (filter p ys) has
      behind false has = has

  -- one of those that pass is an item, and passes
  pub filter_contained : (xs : List X) (x : X) → Contains (filter p xs) x → Contains xs x
  filter_contained xs x has = All-contains (Contains xs) (filter p xs) x (All-filter p (Contains xs) xs (All-contains_itself xs)) has

  pub contained_passes : (xs : List X) (x : X) → Contains (filter p xs) x → p x ≡ true
  contained_passes xs x has = All-contains (λ y. p y ≡ true) (filter p xs) x (filter_passes p xs) has

  pub filter_first : (x : X) (xs : List X) → p x ≡ true → filter p (x ∷ xs) ≡ x ∷ filter p xs
  filter_first x xs passes = cond-true (p x) (x ∷ filter p xs) (filter p xs) passes

  pub filter_rest : (x : X) (xs : List X) → p x ≡ false → filter p (x ∷ xs) ≡ filter p xs
  filter_rest x xs fails = cond-false (p x) (x ∷ filter p xs) (filter p xs) fails

  pub filter_whole : (xs : List X) → ((x : X) → p x ≡ true) → filter p xs ≡ xs
  filter_whole [] all = refl
  filter_whole (x ∷ xs) all = filter_first x xs (all x) ∙ ap (λ ys. x ∷ ys) (filter_whole xs all)

  pub filter_nothing : (xs : List X) → ((x : X) → p x ≡ false) → filter p xs ≡ []
  filter_nothing [] none = refl
  filter_nothing (x ∷ xs) none = filter_rest x xs (none x) ∙ filter_nothing xs none

  -- one more item that passes, and one more that fails
  filter_step : (xs : List X) (k : ℕ) (x : X) → k < length xs → get_or xs k x ≡ x → filter p (take (k + 1) xs) ≡ filter p (take k xs) ++ cond (p x) (x ∷ []) []
  filter_step xs k x inside at = ap (filter p) (take_more xs k x inside ∙ ap (λ y. take k xs ++ y ∷ []) at) ∙ filter-append p (take k xs) (x ∷ [])

  pub filter_with : (xs : List X) (k : ℕ) (x : X) → k < length xs → get_or xs k x ≡ x → p x ≡ true → filter p (take (k + 1) xs) ≡ filter p (take k xs) ++ x ∷ []
  filter_with xs k x inside at passes = filter_step xs k x inside at ∙ ap (λ l. filter p (take k xs) ++ l) (cond-true (p x) (x ∷ []) [] passes)

  pub filter_without : (xs : List X) (k : ℕ) (x : X) → k < length xs → get_or xs k x ≡ x → p x ≡ false → filter p (take (k + 1) xs) ≡ filter p (take k xs)
  filter_without xs k x inside at fails =
      filter_step xs k x inside at ∙ ap (λ l. filter p (take k xs) ++ l) (cond-false (p x) (x ∷ []) [] fails) ∙ append-nil (filter p (take k xs))

-- ---- two tests

module _ {X : Type 0} (p q : X → Bool) where
  -- what passes a test passes a weaker one
  pub contains_more : ((x : X) → p x ≡ true → q x ≡ true) → (xs : List X) (x : X) → Contains (filter p xs) x → Contains (filter q xs) x
  contains_more more xs x has = filter_contains q xs x (filter_contained p xs x has) (more x (contained_passes p xs x has))

  pub filter_twice : (xs : List X) → filter p (filter q xs) ≡ filter (λ x. q x && p x) xs
  filter_twice [] = refl
  filter_twice (x ∷ xs) = elim (cases_Bool (q x)) [
    | inl t ↦ rw (t, filter_twice xs) refl
    | inr f ↦ rw (f, filter_twice xs) refl
  ]

  pub filter_agree_on : (xs : List X) → All (λ x. p x ≡ q x) xs → filter p xs ≡ filter q xs
  filter_agree_on [] same = refl
  filter_agree_on (x ∷ xs) same =
      ap (λ b. cond b (x ∷ filter p xs) (filter p xs)) (All-head (λ y. p y ≡ q y) x xs same)
      ∙ ap (λ l. cond (q x) (x ∷ l) l) (filter_agree_on xs (All-tail (λ y. p y ≡ q y) x xs same))

pub any_map : {X Y : Type 0} (p : Y → Bool) (f : X → Y) (xs : List X) → list_any p (map f xs) ≡ list_any (λ x. p (f x)) xs
any_map p f [] = refl
any_map p f (x ∷ xs) = ap (λ b. p (f x) || b) (any_map p f xs)

-- ---- the first place

-- a place that passes the test, where no earlier one does, is the position that is found
pub position_at : {X : Type 0} (p : X → Bool) (xs : List X) (i : ℕ) (d : X) → i < length xs →
    ((k : ℕ) → k < i → p (get_or xs k d) ≡ false) → p (get_or xs i d) ≡ true → position p xs ≡ Some i
position_at p xs i d inside before here =
    let small : nat_lt i (length xs) ≡ true = lt-ltb i (length xs) inside in
    rw (position_or_len_is p xs i d (omega arith) before (λ h. here), small) refl

-- where no place is found, the test fails everywhere
pub none_passes : {X : Type 0} (p : X → Bool) (xs : List X) → position p xs ≡ None → All (λ x. p x ≡ false) xs
none_passes p xs none = λ k d inside. elim (cases_lt (position_or_len p xs) (length xs)) [
  | inl found ↦
      let some = subst (λ b. cond b (Some (position_or_len p xs)) None ≡ None) (lt-ltb (position_or_len p xs) (length xs) found) none in
      cc
  | inr past ↦ fails_before_first p xs k d (omega arith)
]
