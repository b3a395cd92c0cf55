-- The names of time-points, by their numbers.
use Rattle.std.proofs.Common.{◌≡◌, ℕ, suc, ◌+◌, ◌<◌, Bool, true, false, List, [], ◌∷◌, ◌++◌, length, take, refl, ap, sym, ◌∙◌, arith, subst, length-take, None}
use Rattle.std.specs.Prelude.{codes, nat_lt, slice_index_or}
use Rattle.std.specs.List.{position, position_or_len}
use Rattle.std.specs.Str.{bytes_eq}
use Rattle.std.proofs.lemmas.Bool.{false_from_ne_true}
use Rattle.std.proofs.lemmas.List.{take_more, get_or-take}
use Rattle.std.proofs.lemmas.List.Sums.{position_or_len_is}
use Rattle.std.proofs.lemmas.Slice.Eq.{bytes_eq-Decides}
use Rattle.cstn_text.specs.Names.{AreNames, number_of}
use Rattle.cstn_sentences.specs.Declarations.{is_origin}

-- a list with the next item
pub take_next : {X : Type 0} → (xs : List X) (i : ℕ) (d : X) → i < length xs → take (suc i) xs ≡ take i xs ++ slice_index_or xs i d ∷ []
take_next xs i d h = let e : suc i ≡ i + 1 = omega arith in ap (λ k. take k xs) e ∙ take_more xs i d h

other_name : (names : List (List ℕ)) (i j : ℕ) → AreNames names → i < j → j < length names
    → bytes_eq (slice_index_or names j []) (slice_index_or names i []) ≡ false
other_name names i j are before inside =
    false_from_ne_true (bytes_eq (slice_index_or names j []) (slice_index_or names i []))
    (λ e. are.different i j [] before inside (sym ((bytes_eq-Decides (slice_index_or names j []) (slice_index_or names i [])).0 e)))

-- the origin has its name, and no time-point after it has
pub origin_is : (names : List (List ℕ)) → slice_index_or names 0 [] ≡ codes "Z" → is_origin (slice_index_or names 0 []) ≡ true
origin_is names e = rw e refl

pub no_origin : (names : List (List ℕ)) (n : ℕ) → AreNames names → slice_index_or names 0 [] ≡ codes "Z" → suc n < length names
    → is_origin (slice_index_or names (suc n) []) ≡ false
no_origin names n are origin inside =
    subst (λ (x : List ℕ). bytes_eq (slice_index_or names (suc n) []) x ≡ false) origin (other_name names 0 (suc n) are (omega arith) inside)

found_none : (p : List ℕ → Bool) (xs : List (List ℕ)) → position_or_len p xs ≡ length xs → position p xs ≡ None
found_none p xs e = let t : nat_lt (length xs) (length xs) ≡ false = grind arith in rw (e, t) refl

-- the name of a time-point isn't among the names of those before it
pub new_name : (names : List (List ℕ)) (n : ℕ) → AreNames names → n < length names → number_of (take n names) (slice_index_or names n []) ≡ None
new_name names n are inside =
    let name : List ℕ = slice_index_or names n [] in
    let size : length (take n names) ≡ n = omega (arith, length-take n names) in
    found_none (bytes_eq name) (take n names)
    (position_or_len_is (bytes_eq name) (take n names) (length (take n names)) [] (omega arith)
    (λ k below. let low : k < n = omega (arith, size, below) in
    ap (bytes_eq name) (get_or-take n names k [] low) ∙ other_name names k n are low inside)
    (λ below. absurd (omega (arith, below))))
