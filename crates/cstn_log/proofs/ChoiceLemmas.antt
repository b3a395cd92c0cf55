-- Lists of which the values at marked places are chosen.
use Rattle.std.proofs.Common.{ℕ, zero, suc, ◌≡◌, inl, inr, ◌+◌, ◌<◌, ◌≤◌, Bool, true, false, Some, List, [], ◌∷◌, ◌++◌, length, take, drop, set, arith, refl, sym, subst, ap, ◌∙◌, append_assoc}
use Rattle.std.specs.Prelude.{slice_get}
use Rattle.std.proofs.lemmas.Bool.{cases_Bool, cases_lt}
use Rattle.std.proofs.lemmas.List.{take_more_set, drop-set-lt, length-set}
use Rattle.std.proofs.lemmas.Option.{none-some, slice_get_within}
use Rattle.cstn_log.specs.Cuts.{is_place_marked, rank, chosen_from, chosen}
use Rattle.cstn_facts.proofs.Places.{drop_step}

pub rank_marked : (marks : List Bool) (k : ℕ) → is_place_marked marks k ≡ true → rank marks (suc k) ≡ rank marks k + 1
rank_marked marks k h = rw h refl

pub rank_unmarked : (marks : List Bool) (k : ℕ) → is_place_marked marks k ≡ false → rank marks (suc k) ≡ rank marks k
rank_unmarked marks k h = let e : rank marks (suc k) ≡ rank marks k + 0 = rw h refl in omega (arith, e)

pub rank_grows : (marks : List Bool) (i k : ℕ) → i ≤ k → rank marks i ≤ rank marks k
rank_grows marks i zero h = let e : i ≡ 0 = omega arith in subst (λ m. rank marks m ≤ rank marks 0) (sym e) (omega arith)
rank_grows marks i (suc k) h = elim (cases_lt k i) [
  | inl last ↦ let e : i ≡ suc k = omega arith in subst (λ m. rank marks m ≤ rank marks (suc k)) (sym e) (omega arith)
  | inr upto ↦
      let below = rank_grows marks i k upto in
      elim (cases_Bool (is_place_marked marks k)) [
        | inl t ↦ let e = rank_marked marks k t in omega arith
        | inr f ↦ let e = rank_unmarked marks k f in omega arith
      ]
]

pub rank_less : (marks : List Bool) (i k : ℕ) → is_place_marked marks i ≡ true → i < k → rank marks i < rank marks k
rank_less marks i k h less =
    let e = rank_marked marks i h in
    let grows = rank_grows marks (suc i) k (omega arith) in
    omega arith

-- the rank rises by at most k over k places
pub rank_between : (marks : List Bool) (i k : ℕ) → rank marks (i + k) ≤ rank marks i + k
rank_between marks i zero = let e : i + 0 ≡ i = omega arith in rw e (omega arith)
rank_between marks i (suc k) =
    let e : i + suc k ≡ suc (i + k) = omega arith in
    let below = rank_between marks i k in
    elim (cases_Bool (is_place_marked marks (i + k))) [
      | inl t ↦ let up = rank_marked marks (i + k) t in rw e (omega (arith, up, below))
      | inr f ↦ let up = rank_unmarked marks (i + k) f in rw e (omega (arith, up, below))
    ]

pub rank_upto : (marks : List Bool) (k : ℕ) → rank marks k ≤ k
rank_upto marks k = let all = rank_between marks 0 k in let e : 0 + k ≡ k = omega arith in omega (arith, rw e at all)

-- where the first n places are all marked, each place up to n is its own rank
pub rank_same : (marks : List Bool) (n k : ℕ) → rank marks n ≡ n → k ≤ n → rank marks k ≡ k
rank_same marks n k all upto = from (difference k n upto)
  where
    difference : (i m : ℕ) → i ≤ m → (d : ℕ) × (m ≡ i + d)
    difference zero m le = (m, omega arith)
    difference (suc i) zero le = absurd (omega (arith, le))
    difference (suc i) (suc m) le = let rest = difference i m (omega (arith, le)) in (rest.0, omega (arith, rest.1))

    from : (d : ℕ) × (n ≡ k + d) → rank marks k ≡ k
    from d =
        let between : rank marks n ≤ rank marks k + d.0 = subst (λ m. rank marks m ≤ rank marks k + d.0) (sym d.1) (rank_between marks k d.0) in
        omega (arith, rank_upto marks k, between, d.1, all)

pub all_marked : (marks : List Bool) (n k : ℕ) → rank marks n ≡ n → k < n → is_place_marked marks k ≡ true
all_marked marks n k all less = elim (cases_Bool (is_place_marked marks k)) [
  | inl t ↦ t
  | inr f ↦ absurd (omega (arith, rank_unmarked marks k f, rank_same marks n k all (omega arith), rank_same marks n (suc k) all (omega arith)))
]

pub chosen_marked : {X : Type 0} (marks : List Bool) (k : ℕ) (x : X) (xs : List X) → is_place_marked marks k ≡ true → chosen_from marks k (x ∷ xs) ≡ x ∷ chosen_from marks (suc k) xs
chosen_marked marks k x xs h = rw h refl

pub chosen_unmarked : {X : Type 0} (marks : List Bool) (k : ℕ) (x : X) (xs : List X) → is_place_marked marks k ≡ false → chosen_from marks k (x ∷ xs) ≡ chosen_from marks (suc k) xs
chosen_unmarked marks k x xs h = rw h refl

length_from : {X : Type 0} (marks : List Bool) (k : ℕ) (xs : List X) → length (chosen_from marks k xs) + rank marks k ≡ rank marks (k + length xs)
length_from marks k [] = let e : k + 0 ≡ k = omega arith in rw e (omega arith)
length_from marks k (x ∷ xs) =
    let rest = length_from marks (suc k) xs in
    let e : k + suc (length xs) ≡ suc k + length xs = omega arith in
    elim (cases_Bool (is_place_marked marks k)) [
      | inl t ↦
          let up = rank_marked marks k t in
          rw (chosen_marked marks k x xs t, e) (omega (arith, rest, up))
      | inr f ↦
          let up = rank_unmarked marks k f in
          rw (chosen_unmarked marks k x xs f, e) (omega (arith, rest, up))
    ]

-- as many values are chosen as places are marked
pub length_chosen : {X : Type 0} (marks : List Bool) (xs : List X) → length (chosen marks xs) ≡ rank marks (length xs)
length_chosen marks xs =
    let none : 0 + length xs ≡ length xs = omega arith in
    let whole = length_from marks 0 xs in
    omega (arith, rw none at whole)

-- a marked value stands at its rank
forward : {X : Type 0} (marks : List Bool) (xs : List X) (i k n d : ℕ) (e : X) → n ≡ i + k → slice_get xs i ≡ Some e →
    is_place_marked marks n ≡ true → rank marks n ≡ d + rank marks k → slice_get (chosen_from marks k xs) d ≡ Some e
forward marks [] i k n d e at there h r = absurd (none-some e there)
forward marks (x ∷ xs) zero k n d e at there h r =
    let here : n ≡ k = omega arith in
    let h_k : is_place_marked marks k ≡ true = subst (λ m. is_place_marked marks m ≡ true) here h in
    let r_k : rank marks k ≡ d + rank marks k = subst (λ m. rank marks m ≡ d + rank marks k) here r in
    let first : d ≡ 0 = omega arith in
    rw (chosen_marked marks k x xs h_k, first) there
forward marks (x ∷ xs) (suc i) k n zero e at there h r = elim (cases_Bool (is_place_marked marks k)) [
  | inl t ↦
      let up = rank_marked marks k t in
      let upto = rank_grows marks (suc k) n (omega arith) in
      absurd (omega arith)
  | inr f ↦
      let up = rank_unmarked marks k f in
      rw (chosen_unmarked marks k x xs f) (forward marks xs i (suc k) n zero e (omega arith) there h (omega arith))
]
forward marks (x ∷ xs) (suc i) k n (suc d) e at there h r = elim (cases_Bool (is_place_marked marks k)) [
  | inl t ↦
      let up = rank_marked marks k t in
      rw (chosen_marked marks k x xs t) (forward marks xs i (suc k) n d e (omega arith) there h (omega arith))
  | inr f ↦
      let up = rank_unmarked marks k f in
      rw (chosen_unmarked marks k x xs f) (forward marks xs i (suc k) n (suc d) e (omega arith) there h (omega arith))
]

-- what stands at a place of the chosen ones comes from a marked place
record Comes {X : Type 0} (marks : List Bool) (xs : List X) (k d : ℕ) (e : X) : Type 0 where
  i : ℕ
  n : ℕ
  sum : n ≡ i + k
  there : slice_get xs i ≡ Some e
  still : is_place_marked marks n ≡ true
  place : rank marks n ≡ d + rank marks k

-- what comes from the rest of the list comes from the list
comes_on : {X : Type 0} (marks : List Bool) (x : X) (xs : List X) (k d c : ℕ) (e : X) →
    rank marks (suc k) + c ≡ d + rank marks k → (b : Comes marks xs (suc k) c e) → Comes marks (x ∷ xs) k d e
comes_on marks x xs k d c e up b =
    let place = b.place in
    let sum = b.sum in
    record { i = suc b.i; n = b.n; sum = omega arith; there = b.there; still = b.still; place = omega arith }

backward : {X : Type 0} (marks : List Bool) (xs : List X) (k d : ℕ) (e : X) → slice_get (chosen_from marks k xs) d ≡ Some e →
    Comes marks xs k d e
backward marks [] k d e h = absurd (none-some e h)
backward marks (x ∷ xs) k zero e h = elim (cases_Bool (is_place_marked marks k)) [
  | inl t ↦
      record { i = 0; n = k; sum = omega arith; there = rw (chosen_marked marks k x xs t) at h; still = t; place = omega arith }
  | inr n ↦
      let up = rank_unmarked marks k n in
      comes_on marks x xs k zero zero e (omega arith)
      (backward marks xs (suc k) zero e (rw (chosen_unmarked marks k x xs n) at h))
]
backward {X = X} marks (x ∷ xs) k (suc d) e h = elim (cases_Bool (is_place_marked marks k)) [
  | inl t ↦
      let g : slice_get (x ∷ chosen_from marks (suc k) xs) (suc d) ≡ Some e = rw (chosen_marked marks k x xs t) at h in
      let up = rank_marked marks k t in
      comes_on marks x xs k (suc d) d e (omega arith) (backward marks xs (suc k) d e g)
  | inr n ↦
      let up = rank_unmarked marks k n in
      comes_on marks x xs k (suc d) (suc d) e (omega arith)
      (backward marks xs (suc k) (suc d) e (rw (chosen_unmarked marks k x xs n) at h))
]

-- what stands at a place of the chosen ones
pub chosen_comes : {X : Type 0} (marks : List Bool) (xs : List X) (d : ℕ) (e : X) → slice_get (chosen marks xs) d ≡ Some e →
    (i : ℕ) × (slice_get xs i ≡ Some e) × (is_place_marked marks i ≡ true) × (rank marks i ≡ d)
chosen_comes marks xs d e at =
    let c = backward marks xs 0 d e at in
    let same : c.n ≡ c.i = omega (arith, c.sum) in
    let still = subst (λ m. is_place_marked marks m ≡ true) same c.still in
    let place = subst (λ m. rank marks m ≡ d + 0) same c.place in
    (c.i, c.there, still, omega (arith, place))

-- where a marked value goes
pub chosen_goes : {X : Type 0} (marks : List Bool) (xs : List X) (i : ℕ) (e : X) → slice_get xs i ≡ Some e →
    is_place_marked marks i ≡ true → slice_get (chosen marks xs) (rank marks i) ≡ Some e
chosen_goes marks xs i e there h = forward marks xs i 0 i (rank marks i) e (omega arith) there h (omega arith)

all_from : {X : Type 0} (marks : List Bool) (k n : ℕ) (xs : List X) → rank marks n ≡ n → k + length xs ≤ n → chosen_from marks k xs ≡ xs
all_from marks k n [] all upto = refl
all_from marks k n (x ∷ xs) all upto =
    chosen_marked marks k x xs (all_marked marks n k all (omega (arith, upto))) ∙ ap (λ ys. x ∷ ys) (all_from marks (suc k) n xs all (omega (arith, upto)))

-- all are chosen where all are marked
pub chosen_all : {X : Type 0} (marks : List Bool) (xs : List X) → rank marks (length xs) ≡ length xs → chosen marks xs ≡ xs
chosen_all marks xs all = all_from marks 0 (length xs) xs all (omega arith)

drop_one : {X : Type 0} (xs : List X) (k : ℕ) → drop 1 (drop k xs) ≡ drop (suc k) xs
drop_one xs zero = refl
drop_one [] (suc k) = refl
drop_one (x ∷ xs) (suc k) = drop_one xs k

get_dropped : {X : Type 0} (xs : List X) (k : ℕ) → slice_get (drop k xs) 0 ≡ slice_get xs k
get_dropped xs zero = refl
get_dropped [] (suc k) = refl
get_dropped (x ∷ xs) (suc k) = get_dropped xs k

-- lists that are the same from a place on
pub same_there : {X : Type 0} (xs ys : List X) (k : ℕ) → drop k xs ≡ drop k ys → slice_get xs k ≡ slice_get ys k
same_there xs ys k same = sym (get_dropped xs k) ∙ ap (λ zs. slice_get zs 0) same ∙ get_dropped ys k

same_on : {X : Type 0} (xs ys : List X) (k : ℕ) → drop k xs ≡ drop k ys → drop (suc k) xs ≡ drop (suc k) ys
same_on xs ys k same = sym (drop_one xs k) ∙ ap (drop 1) same ∙ drop_one ys k

-- while values are chosen in place: the first `count` are those chosen among the first k, and from k on the list is as it was
pub record IsChoosing {X : Type 0} (marks : List Bool) (old new : List X) (k count : ℕ) : Type 0 where
  pub size : length new ≡ length old
  pub count_is : count ≡ rank marks k
  pub ahead : drop k new ≡ drop k old
  pub reach : take count new ++ chosen_from marks k (drop k old) ≡ chosen marks old

pub choosing_none : {X : Type 0} (marks : List Bool) (old : List X) → IsChoosing marks old old 0 0
choosing_none marks old = record { size = refl; count_is = refl; ahead = refl; reach = refl }

pub choosing_marked : {X : Type 0} (marks : List Bool) (old new : List X) (k count : ℕ) (x : X) → IsChoosing marks old new k count → slice_get new k ≡ Some x → is_place_marked marks k ≡ true → IsChoosing marks old (set new count x) (suc k) (count + 1)
choosing_marked marks old new k count x is there h =
    let upto : count ≤ k = omega (arith, is.count_is, rank_upto marks k) in
    let inside : count < length new = omega (arith, upto, slice_get_within new k x there) in
    let rest = drop (suc k) old in
    let left : drop k old ≡ x ∷ rest = drop_step old k x (sym (same_there new old k is.ahead) ∙ there) in
    let more : take (count + 1) (set new count x) ≡ take count new ++ x ∷ [] = take_more_set new count x inside in
    let here : chosen_from marks k (drop k old) ≡ x ∷ chosen_from marks (suc k) rest = rw left (chosen_marked marks k x rest h) in
    record {
      size = length-set new count x ∙ is.size;
      count_is = omega (arith, is.count_is, rank_marked marks k h);
      ahead = drop-set-lt (suc k) new count x (omega (arith, upto)) ∙ same_on new old k is.ahead;
      reach = rw more (append_assoc (take count new) (x ∷ []) (chosen_from marks (suc k) rest) ∙ ap (λ ys. take count new ++ ys) (sym here) ∙ is.reach);
    }

pub choosing_unmarked : {X : Type 0} (marks : List Bool) (old new : List X) (k count : ℕ) → IsChoosing marks old new k count → is_place_marked marks k ≡ false → IsChoosing marks old new (suc k) count
choosing_unmarked {X = X} marks old new k count is h = record {
  size = is.size;
  count_is = omega (arith, is.count_is, rank_unmarked marks k h);
  ahead = same_on new old k is.ahead;
  reach = ap (λ ys. take count new ++ ys) (sym (here old k)) ∙ is.reach;
}
  where
    here : (xs : List X) (n : ℕ) → chosen_from marks k (drop n xs) ≡ chosen_from marks (suc k) (drop (suc n) xs)
    here [] zero = refl
    here [] (suc n) = refl
    here (x ∷ xs) zero = chosen_unmarked marks k x xs h
    here (x ∷ xs) (suc n) = here xs n

pub choosing_done : {X : Type 0} (marks : List Bool) (old new : List X) (k count : ℕ) → IsChoosing marks old new k count → k ≡ length old → take count new ≡ chosen marks old
choosing_done {X = X} marks old new k count is end =
    let none : drop k old ≡ [] = rw end (drop_all old) in
    let all : take count new ++ [] ≡ chosen marks old = rw none at is.reach in
    sym (append_none (take count new)) ∙ all
  where
    drop_all : (xs : List X) → drop (length xs) xs ≡ []
    drop_all [] = refl
    drop_all (x ∷ xs) = drop_all xs

    append_none : (xs : List X) → xs ++ [] ≡ xs
    append_none [] = refl
    append_none (x ∷ xs) = ap (λ ys. x ∷ ys) (append_none xs)
