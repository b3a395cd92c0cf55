-- The latest moments, as the program finds them one bound after the other, and the lists that it makes for all time-points.
use Rattle.std.proofs.Common.{ℕ, suc, ◌≡◌, inl, inr, ◌+◌, ◌<◌, ◌≤◌, max, Bool, true, false, not, cond, ◌&&◌, List, [], ◌∷◌, ◌++◌, Option, Some, None, map, drop, length, get_or, arith, refl, sym, subst, ap, ◌∙◌}
use Rattle.std.specs.Prelude.{◌==◌, slice_get, slice_index, slice_index_or, slice_set, if◌then◌else◌}
use Rattle.std.specs.List.{filter, range_with_len}
use Rattle.std.proofs.lemmas.Bool.{cases_eq, cond-true, cond-false, and_from, eq-eqb, ne_eqb}
use Rattle.std.proofs.lemmas.List.{get_or-set_same, get_or-set_other, length-map, map-append, map-id}
use Rattle.std.proofs.lemmas.List.Elements.{filter-append}
use Rattle.std.proofs.lemmas.List.Filters.{length-filter_both}
use Rattle.std.proofs.lemmas.List.FromFn.{length-range_with_len, get_or-range_with_len, map-range_with_len_more}
use Rattle.std.proofs.lemmas.List.{get_or-map}
use Rattle.std.proofs.lemmas.Option.{slice_get-get_or, slice_get_within}
use Rattle.std.proofs.Math.Seq.{drop-cons}
use Rattle.cstn_facts.proofs.Filters.{filter_agree_on}
use Rattle.cstn_label.specs.declared.bounds.Bound.{Bound as ProgramBound}
use Rattle.cstn_label.specs.Read.{the_bound}
use Rattle.cstn_label.specs.Marks.{is_plain}
use Rattle.cstn_net.specs.Networks.{count}
use Rattle.cstn_lift.specs.Labelled.{Labelled}
use Rattle.cstn_plan.specs.Asked.{moment_of}
use Rattle.cstn_plan.specs.Plans.{the_bounds}
use Rattle.cstn_history.specs.Histories.{History}
use Rattle.cstn_history.specs.Rest.{number_left, is_left}
use Rattle.cstn_history.specs.Handed.{AreNumbers}
use Rattle.cstn_next.specs.Next.{latest}

pub drop_next : (bounds : List ProgramBound) (k : ℕ) (b : ProgramBound) → slice_get bounds k ≡ Some b → drop k bounds ≡ b ∷ drop (k + 1) bounds
drop_next bounds k b at =
    let inside = slice_get_within bounds k b at in
    let here : b ≡ get_or bounds k b = let there = slice_get-get_or bounds k b inside in cc in
    let next : suc k ≡ k + 1 = omega arith in
    drop-cons bounds k b inside ∙ ap (λ y. y ∷ drop (suc k) bounds) (sym here) ∙ ap (λ n. b ∷ drop n bounds) next

-- the latest moment that the bounds from the place k on ask for, from that of those behind it
pub latest_more : (bounds : List ProgramBound) (k x : ℕ) (b : ProgramBound) (before now : ℕ) → slice_get bounds k ≡ Some b →
    before ≡ latest (the_bounds (drop (k + 1) bounds)) x →
    now ≡ cond ((b.node.0 == x) && is_plain (the_bound b).label) (max (moment_of b.least) before) before →
    now ≡ latest (the_bounds (drop k bounds)) x
latest_more bounds k x b before now at old new =
    new ∙ ap (λ n. cond ((b.node.0 == x) && is_plain (the_bound b).label) (max (moment_of b.least) n) n) old
    ∙ sym (ap (λ l. latest (the_bounds l) x) (drop_next bounds k b at))

pub number_upto : (m : Labelled) (h : History) (x : ℕ) → number_left m h x ≤ x
number_upto m h x = let both = length-filter_both (is_left m h) (λ y. not (is_left m h y)) (λ y. refl) (range_with_len 0 x) in let long = length-range_with_len 0 x in omega arith

pub numbers_long : (m : Labelled) (h : History) (numbers : List ℕ) → AreNumbers m h numbers → length numbers ≡ count m.base
numbers_long m h numbers are = ap length are ∙ length-map (range_with_len 0 (count m.base)) (number_left m h) ∙ length-range_with_len 0 (count m.base)

pub number_at : (m : Labelled) (h : History) (numbers : List ℕ) (x d : ℕ) → AreNumbers m h numbers → x < count m.base →
    slice_index_or numbers x d ≡ number_left m h x
number_at m h numbers x d are here =
    let size = length-range_with_len 0 (count m.base) in
    ap (λ l. slice_index_or l x d) are ∙ get_or-map (number_left m h) (range_with_len 0 (count m.base)) x 0 d (omega arith)
    ∙ ap (number_left m h) (get_or-range_with_len 0 (count m.base) x 0 here ∙ (let same : 0 + x ≡ x = omega arith in same))

-- the next number, where it passes a test
pub passing_more : {X : Type 0} → (number : X → ℕ) (test : ℕ → Bool) (old new : List X) (x : X) (n : ℕ) (b : Bool) → number x ≡ n →
    map number old ≡ filter test (range_with_len 0 n) → b ≡ test n → new ≡ old ++ (if b then x ∷ [] else []) →
    map number new ≡ filter test (range_with_len 0 (n + 1))
passing_more number test old new x n b at so_far passes is =
    ap (map number) is ∙ map-append number old (if b then x ∷ [] else []) ∙ ap (λ l. l ++ map number (if b then x ∷ [] else [])) so_far
    ∙ ap (λ l. filter test (range_with_len 0 n) ++ l) (one b ∙ ap (λ k. if b then k ∷ [] else []) at) ∙ ap (λ t. filter test (range_with_len 0 n) ++ (if t then n ∷ [] else [])) passes
    ∙ sym (filter-append test (range_with_len 0 n) (n ∷ [])) ∙ ap (filter test) (sym next)
  where
    one : (t : Bool) → map number (if t then x ∷ [] else []) ≡ (if t then number x ∷ [] else [])
    one true = refl
    one false = refl

    next : range_with_len 0 (n + 1) ≡ range_with_len 0 n ++ n ∷ []
    next = sym (map-id (range_with_len 0 (n + 1))) ∙ map-range_with_len_more (λ k. k) 0 n n (omega arith) ∙ ap (λ l. l ++ n ∷ []) (map-id (range_with_len 0 n))

-- a later moment in the place of an earlier one
pub noted : (xs : List ℕ) (x t : ℕ) (plain : Bool) → x < length xs → plain ≡ true → slice_index xs x < t → (k : ℕ) →
    slice_index (slice_set xs x t) k ≡ cond ((x == k) && plain) (max t (slice_index xs k)) (slice_index xs k)
noted xs x t plain inside is less k = elim (cases_eq k x) [
  | inl same ↦
      let at = subst (λ j. slice_index (slice_set xs x t) j ≡ t) (sym same) (get_or-set_same xs x t 0 inside) in
      let below = subst (λ j. slice_index xs j < t) (sym same) less in
      let most : t ≡ max t (slice_index xs k) = omega arith in
      at ∙ most ∙ sym (cond-true ((x == k) && plain) (max t (slice_index xs k)) (slice_index xs k) (and_from (x == k) plain (eq-eqb x k (sym same)) is))
  | inr other ↦
      get_or-set_other xs x k t 0 other
      ∙ sym (cond-false ((x == k) && plain) (max t (slice_index xs k)) (slice_index xs k) (ap (λ b. b && plain) (ne_eqb x k (λ e. other (sym e)))))
]

-- ---- what passes by a list of what f gives

pub filled_by : (test : Option ℕ → Bool) (f : ℕ → Option ℕ) (n : ℕ) →
    filter (λ x. test (slice_index_or (map f (range_with_len 0 n)) x None)) (range_with_len 0 n) ≡ filter (λ x. test (f x)) (range_with_len 0 n)
filled_by test f n = filter_agree_on (λ x. test (slice_index_or (map f (range_with_len 0 n)) x None)) (λ x. test (f x)) (range_with_len 0 n) (λ k d inside.
    let size = length-range_with_len 0 n in
    let at = get_or-range_with_len 0 n k d (omega arith) in
    let x = get_or (range_with_len 0 n) k d in
    let first : 0 + x ≡ x = omega arith in
    let inside_too : x < n = omega arith in
    ap test (get_or-map f (range_with_len 0 n) x 0 None (omega arith) ∙ ap f (get_or-range_with_len 0 n x 0 inside_too ∙ first)))

pub filled_long : (f : ℕ → Option ℕ) (n : ℕ) → length (map f (range_with_len 0 n)) ≡ n
filled_long f n = length-map (range_with_len 0 n) f ∙ length-range_with_len 0 n

pub filled : (test : Option ℕ → Bool) (f : ℕ → Option ℕ) (n : ℕ) (moments : List (Option ℕ)) → moments ≡ map f (range_with_len 0 n) →
    filter (λ x. test (slice_index_or moments x None)) (range_with_len 0 (length moments)) ≡ filter (λ x. test (f x)) (range_with_len 0 n)
filled test f n moments are =
    ap (λ l. filter (λ x. test (slice_index_or l x None)) (range_with_len 0 (length l))) are
    ∙ ap (λ (k : ℕ). filter (λ x. test (slice_index_or (map f (range_with_len 0 n)) x None)) (range_with_len 0 k)) (filled_long f n) ∙ filled_by test f n
