-- What holds of each two items of a list, one before the other, and of all images of a list.
use Rattle.std.proofs.Common.{suc, ◌<◌, List, [], ◌∷◌, length, get_or, map, arith, subst}
use Rattle.std.specs.List.{All, AllPairs}
use Rattle.std.proofs.lemmas.List.{get_or-map, length-map}

-- what holds of all elements or pairs of `map f xs` holds of the images of all elements or pairs of xs, and the other way
-- round
pub all_unmap : {X Y : Type 0} (P : Y → Type 0) (f : X → Y) (xs : List X) → All P (map f xs) → All (λ x. P (f x)) xs
all_unmap P f xs all = λ k d inside.
    let there : k < length (map f xs) = rw (length-map xs f) inside in
    subst P (get_or-map f xs k d (f d) inside) (all k (f d) there)

pub pairs_unmap : {X Y : Type 0} (R : Y → Y → Type 0) (f : X → Y) (xs : List X) → AllPairs R (map f xs) →
    AllPairs (λ x y. R (f x) (f y)) xs
pairs_unmap R f xs all = λ i j d before inside.
    let there : j < length (map f xs) = rw (length-map xs f) inside in
    let one = get_or-map f xs i d (f d) (omega arith) in
    let other = get_or-map f xs j d (f d) inside in
    subst (λ y. R (f (get_or xs i d)) y) other
    (subst (λ x. R x (get_or (map f xs) j (f d))) one (all i j (f d) before there))

pub pairs_map : {X Y : Type 0} (R : Y → Y → Type 0) (f : X → Y) (xs : List X) → AllPairs (λ x y. R (f x) (f y)) xs →
    AllPairs R (map f xs)
pairs_map R f [] all = λ i j d before inside. absurd (omega arith)
pairs_map R f (x ∷ xs) all = λ i j d before inside.
    let there : j < length (x ∷ xs) = subst (λ n. j < n) (length-map (x ∷ xs) f) inside in
    let one = get_or-map f (x ∷ xs) i x d (omega arith) in
    let other = get_or-map f (x ∷ xs) j x d there in
    rw (one, other) (all i j x before there)

pub pairs_tail : {X : Type 0} (R : X → X → Type 0) (x : X) (xs : List X) → AllPairs R (x ∷ xs) → AllPairs R xs
pairs_tail R x xs all = λ i j d before inside. all (suc i) (suc j) d (omega arith) (omega arith)

pub pairs_head : {X : Type 0} (R : X → X → Type 0) (x : X) (xs : List X) → AllPairs R (x ∷ xs) → All (R x) xs
pairs_head R x xs all = λ k d inside. all 0 (suc k) d (omega arith) (omega arith)
