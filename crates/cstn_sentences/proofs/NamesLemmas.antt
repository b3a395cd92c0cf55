-- Names that aren't in a list yet.
use Rattle.std.proofs.Common.{refl, ◌≡◌, ℕ, ◌+◌, suc, not, Bool, true, false, List, [], ◌∷◌, ◌++◌, length, Option, Some, None, cond, ap, sym, ◌∙◌, arith, length-append}
use Rattle.std.specs.Prelude.{◌||◌, Contains, is_some, codes, nat_lt}
use Rattle.std.specs.List.{All, list_any, position, position_or_len}
use Rattle.std.specs.Str.{bytes_eq}
use Rattle.std.proofs.lemmas.Bool.{false≢true}
use Rattle.std.proofs.lemmas.List.Elements.{All-contains, All-head, All-tail}
use Rattle.std.proofs.lemmas.Slice.Eq.{bytes_eq-Decides}
use Rattle.cstn_facts.proofs.Booleans.{bytes_same}
use Rattle.cstn_facts.proofs.Filters.{none_passes}
use Rattle.cstn_text.specs.Names.{number_of}
use Rattle.cstn_sentences.specs.Declarations.{Declared, is_declared, is_origin, end_name}

-- a name without a number isn't in the list
pub unknown : (names : List (List ℕ)) (name : List ℕ) → number_of names name ≡ None → Contains names name → ⊥
unknown names name e there =
    let differs = All-contains (λ x. bytes_eq name x ≡ false) names name (none_passes (bytes_eq name) names e) there in
    absurd (false≢true (sym differs ∙ bytes_same name))

none_found : (found : Option ℕ) → is_some found ≡ false → found ≡ None
none_found None e = refl
none_found (Some k) e = absurd (cc)

-- what wasn't declared has no number, but for the origin
pub undeclared : (name : List ℕ) (d : Declared) → is_declared name d ≡ false → is_origin name ≡ false → number_of d.names name ≡ None
undeclared name d e other = none_found (number_of d.names name) (rw other at e)

-- ---- a name more

no_place : (p : List ℕ → Bool) (xs : List (List ℕ)) → list_any p xs ≡ false → position_or_len p xs ≡ length xs
no_place p [] e = refl
no_place p (x ∷ xs) e = at (p x) (list_any p xs) refl refl e (no_place p xs)
  where
    at : (b c : Bool) → p x ≡ b → list_any p xs ≡ c → (b || c) ≡ false → (list_any p xs ≡ false → position_or_len p xs ≡ length xs) → cond (not (p x)) (1 + position_or_len p xs) 0 ≡ suc (length xs)
    at true c f g h later = absurd (cc)
    at false true f g h later = absurd (cc)
    at false false f g h later = rw f (omega (arith, later g))

not_below : (n m : ℕ) → n ≡ m → nat_lt n m ≡ false
not_below n m e = grind arith

no_position : (p : List ℕ → Bool) (xs : List (List ℕ)) → list_any p xs ≡ false → position p xs ≡ None
no_position p xs e = ap (λ b. cond b (Some (position_or_len p xs)) None) (not_below (position_or_len p xs) (length xs) (no_place p xs e))

none_of : (p : List ℕ → Bool) (xs : List (List ℕ)) → All (λ x. p x ≡ false) xs → list_any p xs ≡ false
none_of p [] all = refl
none_of p (x ∷ xs) all = rw (All-head (λ y. p y ≡ false) x xs all) (none_of p xs (All-tail (λ y. p y ≡ false) x xs all))

none_more : (p : List ℕ → Bool) (xs : List (List ℕ)) (x : List ℕ) → list_any p xs ≡ false → p x ≡ false → list_any p (xs ++ (x ∷ [])) ≡ false
none_more p [] x e f = rw f refl
none_more p (y ∷ xs) x e f = at (p y) (list_any p xs) refl refl e (λ g. none_more p xs x g f)
  where
    at : (b c : Bool) → p y ≡ b → list_any p xs ≡ c → (b || c) ≡ false → (list_any p xs ≡ false → list_any p (xs ++ (x ∷ [])) ≡ false) → (p y || list_any p (xs ++ (x ∷ []))) ≡ false
    at true c g h k later = absurd (cc)
    at false true g h k later = absurd (cc)
    at false false g h k later = rw g (later h)

-- another name is put in, and the name still has no number
pub still_unknown : (names : List (List ℕ)) (name other : List ℕ) → number_of names name ≡ None → bytes_eq name other ≡ false → number_of (names ++ (other ∷ [])) name ≡ None
still_unknown names name other e f = no_position (bytes_eq name) (names ++ (other ∷ [])) (none_more (bytes_eq name) names other (none_of (bytes_eq name) names (none_passes (bytes_eq name) names e)) f)

differ : (xs ys : List ℕ) → (length xs ≡ length ys → ⊥) → bytes_eq xs ys ≡ false
differ xs ys far = at (bytes_eq xs ys) refl
  where
    at : (b : Bool) → bytes_eq xs ys ≡ b → bytes_eq xs ys ≡ false
    at true e = absurd (far (ap length ((bytes_eq-Decides xs ys).0 e)))
    at false e = e

-- the name of the end of a task is longer than that of the task, and not the origin's
pub end_differs : (name : List ℕ) → bytes_eq (end_name name) name ≡ false
end_differs name = differ (end_name name) name (λ e. absurd (omega (arith, e, length-append name (codes ".end"))))

pub end_is_no_origin : (name : List ℕ) → is_origin (end_name name) ≡ false
end_is_no_origin name = differ (end_name name) (codes "Z") (λ e. absurd (omega (arith, e, length-append name (codes ".end"))))
