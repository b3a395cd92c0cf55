-- Places at which bounds mark a proposition.
use Rattle.std.proofs.Common.{ℕ, zero, suc, ◌≡◌, ◌+◌, ◌≤◌, ◌<◌, Bool, true, false, List, [], ◌∷◌, ◌++◌, Some, length, get_or, map, take, arith, inl, inr, refl, sym, subst, ap, ◌∙◌}
use Rattle.std.specs.Prelude.{slice_get, Vec}
use Rattle.std.specs.List.{range_with_len}
use Rattle.std.specs.declared.alloc.Global.{Global}
use Rattle.std.proofs.lemmas.Bool.{cases_lt, cases_eq}
use Rattle.std.proofs.lemmas.List.{length-map, length-take, map_more, get_or-map, append-nil, map-append}
use Rattle.std.proofs.lemmas.List.FromFn.{length-map-range_with_len, get_or-map-range_with_len, map-range_with_len_more}
use Rattle.cstn_label.specs.declared.bounds.Bound.{Bound as Declared}
use Rattle.cstn_label.specs.Bounds.{Bound}
use Rattle.cstn_label.specs.Labels.{IsMarked}
use Rattle.cstn_label.specs.Read.{the_bound}
use Rattle.cstn_label.specs.Marks.{is_marked}
use Rattle.cstn_closed.specs.Marking.{put_place_if, marking_from, marking, markings, items}
use Rattle.cstn_label.proofs.MarkLemmas.{marked_true}

put_append : (m : Bool) (k : ℕ) (xs ys : List ℕ) → put_place_if m k (xs ++ ys) ≡ put_place_if m k xs ++ ys
put_append true k xs ys = refl
put_append false k xs ys = refl

-- the places with one more bound at the end of the list
from_more : (p k : ℕ) (bounds : List Bound) (b : Bound) → marking_from p k (bounds ++ b ∷ []) ≡ marking_from p k bounds ++ put_place_if (is_marked (b.label p)) (k + length bounds) []
from_more p k [] b = ap (λ n. put_place_if (is_marked (b.label p)) n []) (let e : k ≡ k + 0 = omega arith in e)
from_more p k (x ∷ bounds) b =
    ap (put_place_if (is_marked (x.label p)) k) (from_more p (k + 1) bounds b
    ∙ ap (λ n. marking_from p (k + 1) bounds ++ put_place_if (is_marked (b.label p)) n []) (let e : k + 1 + length bounds ≡ k + suc (length bounds) = omega arith in e))
    ∙ put_append (is_marked (x.label p)) k (marking_from p (k + 1) bounds) (put_place_if (is_marked (b.label p)) (k + suc (length bounds)) [])

-- the places of the first k + 1 bounds, from those of the first k
pub marking_more : (p : ℕ) (xs : List Declared) (k : ℕ) (x : Declared) → k < length xs → x ≡ get_or xs k x →
    marking p (map the_bound (take (k + 1) xs)) ≡ marking p (map the_bound (take k xs)) ++ put_place_if (is_marked ((the_bound x).label p)) k []
marking_more p xs k x inside there =
    ap (marking p) (map_more the_bound xs k x inside ∙ ap (λ y. map the_bound (take k xs) ++ the_bound y ∷ []) (sym there))
    ∙ from_more p 0 (map the_bound (take k xs)) (the_bound x)
    ∙ ap (λ n. marking p (map the_bound (take k xs)) ++ put_place_if (is_marked ((the_bound x).label p)) n []) count
  where
    count : 0 + length (map the_bound (take k xs)) ≡ k
    count = omega (arith, length-map (take k xs) the_bound, length-take k xs)

-- when one more bound is looked at, its place is added if it marks p, and else the places stay
pub place_put : (p : ℕ) (xs : List Declared) (k : ℕ) (x : Declared) (old new : List ℕ) (m : Bool) → k < length xs → x ≡ get_or xs k x →
    m ≡ is_marked ((the_bound x).label p) → m ≡ true → old ≡ marking p (map the_bound (take k xs)) → new ≡ old ++ k ∷ [] →
    new ≡ marking p (map the_bound (take (k + 1) xs))
place_put p xs k x old new m inside there test marked before put =
    put ∙ ap (λ (ps : List ℕ). ps ++ k ∷ []) before
    ∙ sym (marking_more p xs k x inside there ∙ ap (λ b. marking p (map the_bound (take k xs)) ++ put_place_if b k []) (sym test ∙ marked))

pub place_kept : (p : ℕ) (xs : List Declared) (k : ℕ) (x : Declared) (old new : List ℕ) (m : Bool) → k < length xs → x ≡ get_or xs k x →
    m ≡ is_marked ((the_bound x).label p) → m ≡ false → old ≡ marking p (map the_bound (take k xs)) → new ≡ old →
    new ≡ marking p (map the_bound (take (k + 1) xs))
place_kept p xs k x old new m inside there test unmarked before same =
    same ∙ before
    ∙ sym (marking_more p xs k x inside there ∙ ap (λ b. marking p (map the_bound (take k xs)) ++ put_place_if b k []) (sym test ∙ unmarked)
    ∙ append-nil (marking p (map the_bound (take k xs))))

-- the lists of the first n propositions
pub record AreMarkings (n : ℕ) (bounds : List Bound) (lists : List (Vec ℕ Global)) : Type 0 where
  pub are : map items lists ≡ map (λ p. marking p bounds) (range_with_len 0 n)

pub no_markings : (bounds : List Bound) → AreMarkings 0 bounds []
no_markings bounds = record { are = refl }

pub markings_more : {bounds : List Bound} (lists new : List (Vec ℕ Global)) (n : ℕ) (v : Vec ℕ Global) →
    AreMarkings n bounds lists → v.items ≡ marking n bounds → new ≡ lists ++ v ∷ [] → AreMarkings (n + 1) bounds new
markings_more {bounds} lists new n v before here put = record {
  are = ap (map items) put
      ∙ map-append items lists (v ∷ [])
      ∙ ap (λ (ls : List (List ℕ)). ls ++ items v ∷ []) before.are
      ∙ ap (λ (l : List ℕ). map (λ p. marking p bounds) (range_with_len 0 n) ++ l ∷ []) here
      ∙ sym (map-range_with_len_more (λ p. marking p bounds) 0 n n (omega arith));
}

-- the lists of the first 52 propositions are those of all
pub all_markings : {bounds : List Bound} (lists : List (Vec ℕ Global)) (n : ℕ) → AreMarkings n bounds lists → n ≡ 52 → map items lists ≡ markings bounds
all_markings {bounds} lists n are all = are.are ∙ ap (λ (m : ℕ). map (λ p. marking p bounds) (range_with_len 0 m)) all

-- there is a list for each proposition
pub many_lists : (bounds : List Bound) (lists : List (Vec ℕ Global)) → map items lists ≡ markings bounds → length lists ≡ 52
many_lists bounds lists is = sym (length-map lists items) ∙ ap length is ∙ length-map-range_with_len (λ p. marking p bounds) 0 52

-- the list of p has the places of the bounds that mark p
pub its_list : (bounds : List Bound) (lists : List (Vec ℕ Global)) (p : ℕ) (d : Vec ℕ Global) → map items lists ≡ markings bounds → p < 52 →
    (get_or lists p d).items ≡ marking p bounds
its_list bounds lists p d is below =
    let many = many_lists bounds lists is in
    sym (get_or-map items lists p d [] (omega arith)) ∙ ap (λ (ls : List (List ℕ)). get_or ls p []) is
    ∙ get_or-map-range_with_len (λ p. marking p bounds) 0 52 p p [] below (omega arith)

-- no place is below that of the first bound
put_lower : (m : Bool) (k : ℕ) (places : List ℕ) → ((i : ℕ) → i < length places → k + 1 ≤ get_or places i 0) → (i : ℕ) → i < length (put_place_if m k places) → k ≤ get_or (put_place_if m k places) i 0
put_lower true k places all zero inside = omega arith
put_lower true k places all (suc i) inside = let above = all i (omega arith) in omega arith
put_lower false k places all i inside = let above = all i inside in omega arith

from_lower : (p k : ℕ) (bounds : List Bound) (i : ℕ) → i < length (marking_from p k bounds) → k ≤ get_or (marking_from p k bounds) i 0
from_lower p k [] i inside = absurd (omega arith)
from_lower p k (b ∷ bounds) i inside = put_lower (is_marked (b.label p)) k (marking_from p (k + 1) bounds) (from_lower p (k + 1) bounds) i inside

-- no place is behind that of the last bound
put_upper : (m : Bool) (k n : ℕ) (places : List ℕ) → k < n → ((i : ℕ) → i < length places → get_or places i 0 < n) → (i : ℕ) → i < length (put_place_if m k places) → get_or (put_place_if m k places) i 0 < n
put_upper true k n places first all zero inside = first
put_upper true k n places first all (suc i) inside = all i (omega arith)
put_upper false k n places first all i inside = all i inside

from_upper : (p k : ℕ) (bounds : List Bound) (i : ℕ) → i < length (marking_from p k bounds) → get_or (marking_from p k bounds) i 0 < k + length bounds
from_upper p k [] i inside = absurd (omega arith)
from_upper p k (b ∷ bounds) i inside =
    put_upper (is_marked (b.label p)) k (k + length (b ∷ bounds)) (marking_from p (k + 1) bounds) (omega arith)
    (λ j h. let below = from_upper p (k + 1) bounds j h in omega arith) i inside

-- each place is that of a bound
pub place_inside : (p : ℕ) (bounds : List Bound) (i : ℕ) → i < length (marking p bounds) → get_or (marking p bounds) i 0 < length bounds
place_inside p bounds i inside = let upper = from_upper p 0 bounds i inside in omega arith

-- the places ascend
put_ascends : (m : Bool) (k : ℕ) (places : List ℕ) → ((i : ℕ) → i < length places → k + 1 ≤ get_or places i 0) →
    ((i j : ℕ) → i < j → j < length places → get_or places i 0 < get_or places j 0) →
    (i j : ℕ) → i < j → j < length (put_place_if m k places) → get_or (put_place_if m k places) i 0 < get_or (put_place_if m k places) j 0
put_ascends true k places above up i zero less inside = absurd (omega arith)
put_ascends true k places above up zero (suc j) less inside = let later = above j (omega arith) in omega arith
put_ascends true k places above up (suc i) (suc j) less inside = up i j (omega arith) (omega arith)
put_ascends false k places above up i j less inside = up i j less inside

from_ascends : (p k : ℕ) (bounds : List Bound) (i j : ℕ) → i < j → j < length (marking_from p k bounds) →
    get_or (marking_from p k bounds) i 0 < get_or (marking_from p k bounds) j 0
from_ascends p k [] i j less inside = absurd (omega arith)
from_ascends p k (b ∷ bounds) i j less inside =
    put_ascends (is_marked (b.label p)) k (marking_from p (k + 1) bounds) (from_lower p (k + 1) bounds) (from_ascends p (k + 1) bounds) i j less inside

-- k is an element of `places`
abbrev IsAt : List ℕ → ℕ → Type 0
IsAt places k = (i : ℕ) × (i < length places) × (get_or places i 0 ≡ k)

put_here : (m : Bool) (k : ℕ) (places : List ℕ) → m ≡ true → IsAt (put_place_if m k places) k
put_here true k places is = (0, omega arith, refl)
put_here false k places is = absurd (cc)

put_later : (m : Bool) (k n : ℕ) (places : List ℕ) → IsAt places n → IsAt (put_place_if m k places) n
put_later true k n places at = (suc at.0, omega (arith, at.1), at.2)
put_later false k n places at = at

from_has : (p k : ℕ) (bounds : List Bound) (j : ℕ) (b : Bound) → slice_get bounds j ≡ Some b → IsMarked b.label p → IsAt (marking_from p k bounds) (k + j)
from_has p k [] j b there marked = absurd (cc)
from_has p k (x ∷ bounds) zero b there marked =
    let same : x ≡ b = cc in
    subst (IsAt (put_place_if (is_marked (x.label p)) k (marking_from p (k + 1) bounds))) (let e : k ≡ k + 0 = omega arith in e)
    (put_here (is_marked (x.label p)) k (marking_from p (k + 1) bounds) (marked_true (x.label p) (subst (λ (y : Bound). IsMarked y.label p) (sym same) marked)))
from_has p k (x ∷ bounds) (suc j) b there marked =
    put_later (is_marked (x.label p)) k (k + suc j) (marking_from p (k + 1) bounds)
    (subst (IsAt (marking_from p (k + 1) bounds)) (let e : k + 1 + j ≡ k + suc j = omega arith in e) (from_has p (k + 1) bounds j b there marked))

-- the place of a bound that marks p is one of the places for p
pub marked_at : (p : ℕ) (bounds : List Bound) (j : ℕ) (b : Bound) → slice_get bounds j ≡ Some b → IsMarked b.label p →
    (i : ℕ) × (i < length (marking p bounds)) × (get_or (marking p bounds) i 0 ≡ j)
marked_at p bounds j b there marked =
    let at = from_has p 0 bounds j b there marked in
    (at.0, at.1, omega (arith, at.2))

-- where it is before the i-th place for p, it is one of the first i places for p
pub marked_before : (p : ℕ) (bounds : List Bound) (i j : ℕ) (b : Bound) → i < length (marking p bounds) → j < get_or (marking p bounds) i 0 →
    slice_get bounds j ≡ Some b → IsMarked b.label p → (n : ℕ) × (n < i) × (get_or (marking p bounds) n 0 ≡ j)
marked_before p bounds i j b inside before there marked =
    let at = marked_at p bounds j b there marked in
    elim (cases_lt at.0 i) [
      | inl earlier ↦ (at.0, earlier, at.2)
      | inr past ↦ elim (cases_eq at.0 i) [
        | inl same ↦ absurd (let its : get_or (marking p bounds) i 0 ≡ j = subst (λ n. get_or (marking p bounds) n 0 ≡ j) same at.2 in omega arith)
        | inr behind ↦ absurd (let up = from_ascends p 0 bounds i at.0 (omega arith) at.1 in let its = at.2 in omega arith)
      ]
    ]
