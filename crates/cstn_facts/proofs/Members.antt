-- What is in a list: in one that begins with an item, in one that is made from another, and what holds of all that is in it.
use Rattle.std.proofs.Common.{ℕ, zero, suc, ◌≡◌, ◌⊎◌, inl, inr, List, [], ◌∷◌, ◌++◌, Option, Some, None, get_or, map, arith, refl, sym, subst, ap, ◌∙◌}
use Rattle.std.specs.Prelude.{slice_get}
use Rattle.std.specs.List.{All, Contains, cons_option, filter_map, flat_map}
use Rattle.std.proofs.lemmas.Bool.{cases_eq}
use Rattle.std.proofs.lemmas.List.{length-map, get_or-map}
use Rattle.std.proofs.lemmas.List.Elements.{All-nil, All-cons, All-head, All-tail, All-append, All-weaker, All-contains, All-contains_itself, Contains-append_left, Contains-append_right}
use Rattle.std.proofs.lemmas.Option.{slice_get_within, slice_get-get_or, get_or_from_slice_get}

-- ---- items one by one

pub contains_head : {X : Type 0} (x : X) (xs : List X) → Contains (x ∷ xs) x
contains_head x xs = (0, omega arith, refl)

pub contains_tail : {X : Type 0} (y x : X) (xs : List X) → Contains xs x → Contains (y ∷ xs) x
contains_tail y x xs has = (suc has.0, (let inside = has.1 in omega arith), has.2)

pub contains_cases : {X : Type 0} (y x : X) (xs : List X) → Contains (y ∷ xs) x → (y ≡ x) ⊎ Contains xs x
contains_cases y x xs (zero, inside, at) = inl at
contains_cases y x xs (suc k, inside, at) = inr (k, omega arith, at)

pub contains_one : {X : Type 0} (x y : X) → Contains (x ∷ []) y → x ≡ y
contains_one x y (zero, inside, here) = here
contains_one x y (suc k, inside, here) = absurd (omega arith)

pub contains_or_not : (xs : List ℕ) (x : ℕ) → Contains xs x ⊎ (Contains xs x → ⊥)
contains_or_not [] x = inr (λ c. let h = c.1 in omega arith)
contains_or_not (y ∷ ys) x = elim (cases_eq y x) [
  | inl same ↦ inl (0, omega arith, same)
  | inr other ↦ elim (contains_or_not ys x) [
    | inl there ↦ inl (contains_tail y x ys there)
    | inr nowhere ↦ inr (λ c. elim (contains_cases y x ys c) [
      | inl same ↦ other same
      | inr there ↦ nowhere there
    ])
  ]
]

-- an item stands at a place, and what stands at a place is an item
pub there_is : {X : Type 0} (xs : List X) (x : X) → Contains xs x → (k : ℕ) × (slice_get xs k ≡ Some x)
there_is xs x has = (has.0, slice_get-get_or xs has.0 x has.1 ∙ ap Some has.2)

pub is_there : {X : Type 0} (xs : List X) (k : ℕ) (x : X) → slice_get xs k ≡ Some x → Contains xs x
is_there xs k x there = (k, slice_get_within xs k x there, get_or_from_slice_get xs k x x there)

-- what holds of each item
pub all_from : {X : Type 0} (P : X → Type 0) (xs : List X) → ((x : X) → Contains xs x → P x) → All P xs
all_from P xs each = λ k d inside. each (get_or xs k d) (All-contains_itself xs k d inside)

-- ---- `map`

pub contains_map : {X Y : Type 0} (f : X → Y) (xs : List X) (x : X) → Contains xs x → Contains (map f xs) (f x)
contains_map f xs x has = (has.0, omega (arith, has.1, length-map xs f), get_or-map f xs has.0 x (f x) has.1 ∙ ap f has.2)

pub map_from : {X Y : Type 0} (f : X → Y) (xs : List X) (y : Y) → Contains (map f xs) y → (x : X) × Contains xs x × (f x ≡ y)
map_from f [] y (k, inside, is) = absurd (omega arith)
map_from f (x ∷ xs) y (zero, inside, is) = (x, (0, omega arith, refl), is)
map_from f (x ∷ xs) y (suc k, inside, is) =
    let c = map_from f xs y (k, omega arith, is) in
    (c.0, (suc c.1.0, (let h = c.1.1 in omega arith), c.1.2), c.2)

-- ---- `filter_map`

pub filter_map_contains : {X Y : Type 0} (h : X → Option Y) (xs : List X) (x : X) (y : Y) → Contains xs x → h x ≡ Some y → Contains (filter_map h xs) y
filter_map_contains h [] x y has is = let inside = has.1 in absurd (omega arith)
filter_map_contains h (z ∷ zs) x y (zero, inside, here) is =
    let given : h z ≡ Some y = ap h here ∙ is in
    rw given (contains_head y (filter_map h zs))
filter_map_contains h (z ∷ zs) x y (suc k, inside, here) is =
    let rest = filter_map_contains h zs x y (k, omega arith, here) is in
    elim (h z) as (λ o. Contains (cons_option o (filter_map h zs)) y) [
      | None ↦ rest
      | Some w ↦ contains_tail w y (filter_map h zs) rest
    ]

pub filter_map_all : {X Y : Type 0} (P : Y → Type 0) (h : X → Option Y) (xs : List X) → All (λ x. (y : Y) → h x ≡ Some y → P y) xs → All P (filter_map h xs)
filter_map_all P h [] all = All-nil P
filter_map_all {X} {Y} P h (x ∷ xs) all =
    let first = All-head (λ x. (y : Y) → h x ≡ Some y → P y) x xs all in
    let rest = filter_map_all P h xs (All-tail (λ x. (y : Y) → h x ≡ Some y → P y) x xs all) in
    with_first (h x) first rest
  where
    with_first : (o : Option Y) → ((y : Y) → o ≡ Some y → P y) → All P (filter_map h xs) → All P (cons_option o (filter_map h xs))
    with_first None first rest = rest
    with_first (Some y) first rest = All-cons P y (filter_map h xs) (first y refl) rest

pub filter_map_from : {X Y : Type 0} (h : X → Option Y) (xs : List X) (y : Y) → Contains (filter_map h xs) y → (x : X) × Contains xs x × (h x ≡ Some y)
filter_map_from {X} {Y} h xs y has =
    let P : Y → Type 0 = λ z. (x : X) × Contains xs x × (h x ≡ Some z) in
    All-contains P (filter_map h xs) y
    (filter_map_all P h xs (All-weaker (Contains xs) (λ x. (z : Y) → h x ≡ Some z → P z) (λ x among z is. (x, among, is)) xs (All-contains_itself xs))) has

pub filter_map_whole : {X : Type 0} (h : X → Option X) (xs : List X) → All (λ x. h x ≡ Some x) xs → filter_map h xs ≡ xs
filter_map_whole h [] all = refl
filter_map_whole {X} h (x ∷ xs) all =
    ap (λ (o : Option X). cons_option o (filter_map h xs)) (All-head (λ x. h x ≡ Some x) x xs all)
    ∙ ap (λ ys. x ∷ ys) (filter_map_whole h xs (All-tail (λ x. h x ≡ Some x) x xs all))

pub filter_map_none : {X Y : Type 0} (h : X → Option Y) (xs : List X) → All (λ x. h x ≡ None) xs → filter_map h xs ≡ []
filter_map_none h [] all = refl
filter_map_none {X} {Y} h (x ∷ xs) all =
    ap (λ (o : Option Y). cons_option o (filter_map h xs)) (All-head (λ x. h x ≡ None) x xs all)
    ∙ filter_map_none h xs (All-tail (λ x. h x ≡ None) x xs all)

-- ---- `flat_map`

pub flat_map_contains : {X Y : Type 0} (f : X → List Y) (xs : List X) (x : X) (y : Y) → Contains xs x → Contains (f x) y → Contains (flat_map f xs) y
flat_map_contains f [] x y has there = let inside = has.1 in absurd (omega arith)
flat_map_contains f (z ∷ zs) x y (zero, inside, here) there =
    Contains-append_left (f z) (flat_map f zs) y (subst (λ w. Contains (f w) y) (sym here) there)
flat_map_contains f (z ∷ zs) x y (suc k, inside, here) there =
    Contains-append_right (f z) (flat_map f zs) y (flat_map_contains f zs x y (k, omega arith, here) there)

pub flat_map_all : {X Y : Type 0} (P : Y → Type 0) (f : X → List Y) (xs : List X) → All (λ x. All P (f x)) xs → All P (flat_map f xs)
flat_map_all P f [] all = All-nil P
flat_map_all P f (x ∷ xs) all =
    All-append P (f x) (flat_map f xs) (All-head (λ x. All P (f x)) x xs all)
    (flat_map_all P f xs (All-tail (λ x. All P (f x)) x xs all))

pub flat_map_from : {X Y : Type 0} (f : X → List Y) (xs : List X) (y : Y) → Contains (flat_map f xs) y → (x : X) × Contains xs x × Contains (f x) y
flat_map_from {X} {Y} f xs y has =
    let P : Y → Type 0 = λ z. (x : X) × Contains xs x × Contains (f x) z in
    All-contains P (flat_map f xs) y
    (flat_map_all P f xs (All-weaker (Contains xs) (λ x. All P (f x))
    (λ x among. All-weaker (Contains (f x)) P (λ z there. (x, among, there)) (f x) (All-contains_itself (f x))) xs (All-contains_itself xs))) has

pub flat_map_none : {X Y : Type 0} (f : X → List Y) (xs : List X) → All (λ x. f x ≡ []) xs → flat_map f xs ≡ []
flat_map_none f [] all = refl
flat_map_none f (x ∷ xs) all =
    ap (λ ys. ys ++ flat_map f xs) (All-head (λ x. f x ≡ []) x xs all) ∙ flat_map_none f xs (All-tail (λ x. f x ≡ []) x xs all)
