-- What stands at a place of a list: at one of its first places, where one more comes to its end, and in a list of images.
use Rattle.std.proofs.Common.{◌≡◌, ◌⊎◌, inl, inr, ℕ, zero, suc, ◌+◌, ◌<◌, ◌≤◌, List, [], ◌∷◌, ◌++◌, length, map, set, take, drop, get_or, replicate, refl, ap, sym, ◌∙◌, arith}
use Rattle.std.specs.Prelude.{Some, None, Option, slice_get}
use Rattle.std.proofs.lemmas.Bool.{cases_lt}
use Rattle.std.proofs.lemmas.List.{length-replicate, get_or-replicate, get_or_past}
use Rattle.std.proofs.lemmas.Option.{none-some, same_Some}

pub one_there : {X : Type 0} (xs : List X) (k : ℕ) (x y : X) → slice_get xs k ≡ Some x → slice_get xs k ≡ Some y → x ≡ y
one_there xs k x y is also = same_Some x y (sym is ∙ also)

-- the first entries stand at their places
pub get_front : {X : Type 0} (xs : List X) (n k : ℕ) (x : X) → k < n → slice_get xs k ≡ Some x → slice_get (take n xs) k ≡ Some x
get_front [] n k x here is = absurd (none-some x is)
get_front (y ∷ ys) zero k x here is = absurd (omega arith)
get_front (y ∷ ys) (suc n) zero x here is = is
get_front (y ∷ ys) (suc n) (suc k) x here is = get_front ys n k x (omega arith) is

pub same_front : {X : Type 0} (xs : List X) (n k : ℕ) → k < n → slice_get (take n xs) k ≡ slice_get xs k
same_front [] zero k here = refl
same_front [] (suc n) k here = refl
same_front (y ∷ ys) zero k here = absurd (omega arith)
same_front (y ∷ ys) (suc n) zero here = refl
same_front (y ∷ ys) (suc n) (suc k) here = same_front ys n k (omega arith)

-- what stands among the first k stands in the list
pub get_taken : {X : Type 0} (xs : List X) (k j : ℕ) (x : X) → slice_get (take k xs) j ≡ Some x → (j < k) × (slice_get xs j ≡ Some x)
get_taken xs zero j x there = absurd (none-some x there)
get_taken [] (suc k) j x there = absurd (none-some x there)
get_taken (y ∷ ys) (suc k) zero x there = (omega arith, there)
get_taken (y ∷ ys) (suc k) (suc j) x there = let rest = get_taken ys k j x there in (omega (arith, rest.0), rest.1)

pub length_taken : {X : Type 0} (xs : List X) (k : ℕ) → k ≤ length xs → length (take k xs) ≡ k
length_taken xs zero low = refl
length_taken [] (suc k) low = absurd (omega (arith, low))
length_taken (x ∷ xs) (suc k) low = let rest = length_taken xs k (omega (arith, low)) in omega (arith, rest)

-- one more of a list is taken, or dropped
pub take_step : {X : Type 0} (xs : List X) (k : ℕ) (x : X) → slice_get xs k ≡ Some x → take (k + 1) xs ≡ take k xs ++ x ∷ []
take_step {X = X} xs k x there = let e : k + 1 ≡ suc k = omega arith in rw e (go xs k there)
  where
    go : (ys : List X) (n : ℕ) → slice_get ys n ≡ Some x → take (suc n) ys ≡ take n ys ++ x ∷ []
    go [] n at = absurd (none-some x at)
    go (y ∷ ys) zero at = ap (λ z. z ∷ []) (same_Some y x at)
    go (y ∷ ys) (suc n) at = ap (λ zs. y ∷ zs) (go ys n at)

pub drop_step : {X : Type 0} (xs : List X) (k : ℕ) (x : X) → slice_get xs k ≡ Some x → drop k xs ≡ x ∷ drop (suc k) xs
drop_step [] k x there = absurd (none-some x there)
drop_step (y ∷ ys) zero x there = ap (λ z. z ∷ ys) (same_Some y x there)
drop_step (y ∷ ys) (suc k) x there = drop_step ys k x there

-- a list with one more at the end
pub get_left : {X : Type 0} (xs : List X) (y : X) (k : ℕ) (x : X) → slice_get xs k ≡ Some x → slice_get (xs ++ y ∷ []) k ≡ Some x
get_left [] y k x is = absurd (none-some x is)
get_left (z ∷ xs) y zero x is = is
get_left (z ∷ xs) y (suc k) x is = get_left xs y k x is

pub get_last : {X : Type 0} (xs : List X) (y : X) → slice_get (xs ++ y ∷ []) (length xs) ≡ Some y
get_last [] y = refl
get_last (z ∷ xs) y = get_last xs y

pub get_more : {X : Type 0} (xs : List X) (y : X) (k : ℕ) (x : X) → slice_get (xs ++ y ∷ []) k ≡ Some x → (slice_get xs k ≡ Some x) ⊎ ((k ≡ length xs) × (y ≡ x))
get_more [] y zero x is = inr (refl, same_Some y x is)
get_more [] y (suc k) x is = absurd (none-some x is)
get_more (z ∷ xs) y zero x is = inl is
get_more (z ∷ xs) y (suc k) x is = elim (get_more xs y k x is) [ inl p ↦ inl p | inr p ↦ inr (ap suc p.0, p.1) ]

-- what stands in a list of images is the image of what stands there
pub get_map : {X Y : Type 0} (f : X → Y) (xs : List X) (k : ℕ) (y : Y) → slice_get (map f xs) k ≡ Some y → (x : X) × (slice_get xs k ≡ Some x) × (f x ≡ y)
get_map f [] k y is = absurd (none-some y is)
get_map f (x ∷ xs) zero y is = (x, refl, same_Some (f x) y is)
get_map f (x ∷ xs) (suc k) y is = get_map f xs k y is

pub map_same : {X Y : Type 0} (f g : X → Y) (xs : List X) → ((k : ℕ) (x : X) → slice_get xs k ≡ Some x → f x ≡ g x) → map f xs ≡ map g xs
map_same f g [] same = refl
map_same f g (x ∷ xs) same = rw (same zero x refl, map_same f g xs (λ k y is. same (suc k) y is)) refl

-- a value in the middle of a list is set
pub set_seam : {X : Type 0} (xs ys : List X) (x y : X) → set (xs ++ x ∷ ys) (length xs) y ≡ xs ++ y ∷ ys
set_seam [] ys x y = refl
set_seam (z ∷ xs) ys x y = ap (λ zs. z ∷ zs) (set_seam xs ys x y)

-- a value that is repeated is read everywhere, if it is read past the end too
pub get_or_repeated : {X : Type 0} (n k : ℕ) (x : X) → get_or (replicate n x) k x ≡ x
get_or_repeated n k x = elim (cases_lt k n) [
  | inl inside ↦ get_or-replicate n k x x inside
  | inr past ↦ let size = length-replicate n x in get_or_past (replicate n x) k x (omega arith)
]

-- a place of a list of options that has something is in the list
pub some_within : {X : Type 0} (xs : List (Option X)) (k : ℕ) (x : X) → get_or xs k None ≡ Some x → k < length xs
some_within xs k x e = elim (cases_lt k (length xs)) [
  | inl h ↦ h
  | inr past ↦ absurd (none-some x (sym (get_or_past xs k None past) ∙ e))
]
