-- The numbers of a range: which there are, those that pass a test, and what a search through them finds.
use Rattle.std.proofs.Common.{ℕ, zero, suc, ◌≡◌, inl, inr, ◌+◌, ◌<◌, ◌≤◌, Bool, true, false, cond, [], ◌∷◌, ◌++◌, get_or, map, Option, Some, None, arith, refl, sym, subst, ap, ◌∙◌}
use Rattle.std.specs.List.{All, Contains, filter, find, list_all, list_any, range_with_len}
use Rattle.std.specs.List.Sorted.{IsStrictlyIncreasing}
use Rattle.std.proofs.lemmas.Bool.{cases_Bool, cases_eq, cases_order, cond-true, cond-false, and_parts, and_from, or_parts, or_cases, or_from, or_left, or_right, both_ways, false≢true}
use Rattle.std.proofs.lemmas.List.{append-nil}
use Rattle.std.proofs.lemmas.List.Elements.{All-nil, All-cons, All-contains, Contains-get_or, filter-append}
use Rattle.std.proofs.lemmas.List.FromFn.{get_or-range_with_len, length-range_with_len}
use Rattle.std.proofs.lemmas.List.Kept.{IsStrictlyIncreasing-filter}
use Rattle.cstn_facts.proofs.Members.{contains_map, map_from}
use Rattle.cstn_facts.proofs.Filters.{filter_contains, filter_contained, contained_passes, filter_agree_on}

-- ---- which numbers there are

pub range_all : (P : ℕ → Type 0) (a n : ℕ) → ((i : ℕ) → a ≤ i → i < a + n → P i) → All P (range_with_len a n)
range_all P a zero each = All-nil P
range_all P a (suc n) each =
    All-cons P a (range_with_len (a + 1) n) (each a (omega arith) (omega arith))
    (range_all P (a + 1) n (λ i low high. each i (omega arith) (omega arith)))

pub in_range : (a n : ℕ) → All (λ x. (a ≤ x) × (x < a + n)) (range_with_len a n)
in_range a n = range_all (λ x. (a ≤ x) × (x < a + n)) a n (λ i low high. (low, high))

pub range_contains : (n i : ℕ) → i < n → Contains (range_with_len 0 n) i
range_contains n i inside =
    let long = length-range_with_len 0 n in
    let at : get_or (range_with_len 0 n) i 0 ≡ i = get_or-range_with_len 0 n i 0 inside ∙ omega arith in
    subst (Contains (range_with_len 0 n)) at (Contains-get_or (range_with_len 0 n) i 0 (omega arith))

pub range_from : (n i : ℕ) → Contains (range_with_len 0 n) i → i < n
range_from n i has = All-contains (λ k. k < n) (range_with_len 0 n) i (range_all (λ k. k < n) 0 n (λ k low high. omega arith)) has

pub range_more : (a n j : ℕ) → a + n ≡ j → range_with_len a (n + 1) ≡ range_with_len a n ++ j ∷ []
range_more a zero j at = let e : a ≡ j = omega arith in ap (λ i. i ∷ []) e
range_more a (suc n) j at =
    let e : suc n + 1 ≡ suc (n + 1) = omega arith in
    ap (range_with_len a) e ∙ ap (λ is. a ∷ is) (range_more (a + 1) n j (omega arith))

pub range_ascends : (a n : ℕ) → IsStrictlyIncreasing (range_with_len a n)
range_ascends a n = λ k inside.
    let size = length-range_with_len a n in
    let one = get_or-range_with_len a n k 0 (omega arith) in
    let other = get_or-range_with_len a n (k + 1) 0 (omega arith) in
    omega arith

-- ---- what a function makes of the numbers below n

pub mapped : {Y : Type 0} (f : ℕ → Y) (n x : ℕ) (y : Y) → x < n → f x ≡ y → Contains (map f (range_with_len 0 n)) y
mapped f n x y inside e = subst (Contains (map f (range_with_len 0 n))) e (contains_map f (range_with_len 0 n) x (range_contains n x inside))

pub mapped_from : {Y : Type 0} (f : ℕ → Y) (n : ℕ) (y : Y) → Contains (map f (range_with_len 0 n)) y → (x : ℕ) × (x < n) × (f x ≡ y)
mapped_from f n y has = let from = map_from f (range_with_len 0 n) y has in (from.0, range_from n from.0 from.1, from.2)

-- ---- the numbers that pass a test

module _ (test : ℕ → Bool) where
  pub passing : (n x : ℕ) → x < n → test x ≡ true → Contains (filter test (range_with_len 0 n)) x
  passing n x inside passes = filter_contains test (range_with_len 0 n) x (range_contains n x inside) passes

  pub passing_from : (n x : ℕ) → Contains (filter test (range_with_len 0 n)) x → (x < n) × (test x ≡ true)
  passing_from n x has = (range_from n x (filter_contained test (range_with_len 0 n) x has), contained_passes test (range_with_len 0 n) x has)

  pub passing_ascends : (n : ℕ) → IsStrictlyIncreasing (filter test (range_with_len 0 n))
  passing_ascends n = IsStrictlyIncreasing-filter test (range_with_len 0 n) (range_ascends 0 n)

  pub passing_none : (a n : ℕ) → ((k : ℕ) → a ≤ k → k < a + n → test k ≡ false) → filter test (range_with_len a n) ≡ []
  passing_none a zero fails = refl
  passing_none a (suc n) fails =
      cond-false (test a) (a ∷ filter test (range_with_len (a + 1) n)) (filter test (range_with_len (a + 1) n)) (fails a (omega arith) (omega arith))
      ∙ passing_none (a + 1) n (λ k from upto. fails k (omega arith) (omega arith))

  -- one more number
  pub passing_next : (n : ℕ) → filter test (range_with_len 0 (n + 1)) ≡ filter test (range_with_len 0 n) ++ cond (test n) (n ∷ []) []
  passing_next n = ap (filter test) (range_more 0 n n (omega arith)) ∙ filter-append test (range_with_len 0 n) (n ∷ [])

  pub passing_with : (n : ℕ) → test n ≡ true → filter test (range_with_len 0 (n + 1)) ≡ filter test (range_with_len 0 n) ++ n ∷ []
  passing_with n passes = passing_next n ∙ ap (λ l. filter test (range_with_len 0 n) ++ l) (cond-true (test n) (n ∷ []) [] passes)

  pub passing_without : (n : ℕ) → test n ≡ false → filter test (range_with_len 0 (n + 1)) ≡ filter test (range_with_len 0 n)
  passing_without n fails =
      passing_next n ∙ ap (λ l. filter test (range_with_len 0 n) ++ l) (cond-false (test n) (n ∷ []) [] fails) ∙ append-nil (filter test (range_with_len 0 n))

pub passing_same : (f g : ℕ → Bool) (a n : ℕ) → ((k : ℕ) → a ≤ k → k < a + n → f k ≡ g k) → filter f (range_with_len a n) ≡ filter g (range_with_len a n)
passing_same f g a n same = filter_agree_on f g (range_with_len a n) (range_all (λ k. f k ≡ g k) a n same)

-- ---- searches

-- k is the first of the n numbers from a on that passes
pub record IsFirstFrom (test : ℕ → Bool) (a n k : ℕ) : Type 0 where
  pub from : a ≤ k
  pub upto : k < a + n
  pub passes : test k ≡ true
  pub before : (j : ℕ) → a ≤ j → j < k → test j ≡ false

first_later : (test : ℕ → Bool) (a n k : ℕ) → test a ≡ false → IsFirstFrom test (a + 1) n k → IsFirstFrom test a (suc n) k
first_later test a n k fails f = record {
  from = let after = f.from in omega arith;
  upto = let within = f.upto in omega arith;
  passes = f.passes;
  before = λ j from upto. elim (cases_eq j a) [
    | inl same ↦ subst (λ i. test i ≡ false) (sym same) fails
    | inr other ↦ f.before j (omega arith) upto
  ];
}

pub find_first : (test : ℕ → Bool) (a n k : ℕ) → find test (range_with_len a n) ≡ Some k → IsFirstFrom test a n k
find_first test a zero k e = let f : ⊥ = cc in absurd f
find_first test a (suc n) k e = elim (cases_Bool (test a)) [
  | inl passes ↦
      let here = cond-true (test a) (Some a) (find test (range_with_len (a + 1) n)) passes in
      let same : a ≡ k = cc in
      record {
        from = omega arith;
        upto = omega arith;
        passes = subst (λ i. test i ≡ true) same passes;
        before = λ j from upto. absurd (omega arith);
      }
  | inr fails ↦
      let there = cond-false (test a) (Some a) (find test (range_with_len (a + 1) n)) fails in
      first_later test a n k fails (find_first test (a + 1) n k (sym there ∙ e))
]

pub find_none : (test : ℕ → Bool) (a n : ℕ) → find test (range_with_len a n) ≡ None → (k : ℕ) → a ≤ k → k < a + n → test k ≡ false
find_none test a zero e k from upto = absurd (omega arith)
find_none test a (suc n) e k from upto = elim (cases_Bool (test a)) [
  | inl passes ↦
      let here = cond-true (test a) (Some a) (find test (range_with_len (a + 1) n)) passes in
      let f : ⊥ = cc in
      absurd f
  | inr fails ↦
      let there = cond-false (test a) (Some a) (find test (range_with_len (a + 1) n)) fails in
      elim (cases_eq k a) [
        | inl same ↦ subst (λ i. test i ≡ false) (sym same) fails
        | inr other ↦ find_none test (a + 1) n (sym there ∙ e) k (omega arith) (omega arith)
      ]
]

pub found : (test : ℕ → Bool) (a n k : ℕ) → IsFirstFrom test a n k → find test (range_with_len a n) ≡ Some k
found test a n k f = go (find test (range_with_len a n)) refl
  where
    go : (o : Option ℕ) → find test (range_with_len a n) ≡ o → find test (range_with_len a n) ≡ Some k
    go None e = absurd (both_ways (test k) (find_none test a n e k f.from f.upto) f.passes)
    go (Some j) e =
        let g = find_first test a n j e in
        elim (cases_order j k) [
          | inl same ↦ subst (λ i. find test (range_with_len a n) ≡ Some i) same e
          | inr (inl below) ↦ absurd (both_ways (test j) (f.before j g.from below) g.passes)
          | inr (inr above) ↦ absurd (both_ways (test k) (g.before k f.from above) f.passes)
        ]

pub not_found : (test : ℕ → Bool) (a n : ℕ) → ((k : ℕ) → a ≤ k → k < a + n → test k ≡ false) → find test (range_with_len a n) ≡ None
not_found test a n fails = go (find test (range_with_len a n)) refl
  where
    go : (o : Option ℕ) → find test (range_with_len a n) ≡ o → find test (range_with_len a n) ≡ None
    go None e = e
    go (Some j) e =
        let f = find_first test a n j e in
        absurd (both_ways (test j) (fails j f.from f.upto) f.passes)

-- `list_all` is true exactly where each number of the range passes
pub each_passes : (test : ℕ → Bool) (a n : ℕ) → list_all test (range_with_len a n) ≡ true → (k : ℕ) → a ≤ k → k < a + n → test k ≡ true
each_passes test a zero e k from upto = absurd (omega arith)
each_passes test a (suc n) e k from upto =
    let both = and_parts (test a) (list_all test (range_with_len (a + 1) n)) e in
    elim (cases_eq k a) [
      | inl same ↦ subst (λ i. test i ≡ true) (sym same) both.0
      | inr other ↦ each_passes test (a + 1) n both.1 k (omega arith) (omega arith)
    ]

pub all_pass : (test : ℕ → Bool) (a n : ℕ) → ((k : ℕ) → a ≤ k → k < a + n → test k ≡ true) → list_all test (range_with_len a n) ≡ true
all_pass test a zero h = refl
all_pass test a (suc n) h =
    and_from (test a) (list_all test (range_with_len (a + 1) n)) (h a (omega arith) (omega arith))
    (all_pass test (a + 1) n (λ k from upto. h k (omega arith) (omega arith)))

-- `list_any` is false exactly where each number of the range fails
pub each_fails : (test : ℕ → Bool) (a n : ℕ) → list_any test (range_with_len a n) ≡ false → (k : ℕ) → a ≤ k → k < a + n → test k ≡ false
each_fails test a zero e k from upto = absurd (omega arith)
each_fails test a (suc n) e k from upto =
    let both = or_parts (test a) (list_any test (range_with_len (a + 1) n)) e in
    elim (cases_eq k a) [
      | inl same ↦ subst (λ i. test i ≡ false) (sym same) both.0
      | inr other ↦ each_fails test (a + 1) n both.1 k (omega arith) (omega arith)
    ]

pub none_passes : (test : ℕ → Bool) (a n : ℕ) → ((k : ℕ) → a ≤ k → k < a + n → test k ≡ false) → list_any test (range_with_len a n) ≡ false
none_passes test a zero h = refl
none_passes test a (suc n) h =
    or_from (test a) (list_any test (range_with_len (a + 1) n)) (h a (omega arith) (omega arith))
    (none_passes test (a + 1) n (λ k from upto. h k (omega arith) (omega arith)))

-- `list_any` is true exactly where some number of the range passes
pub some_passes : (test : ℕ → Bool) (a n : ℕ) → list_any test (range_with_len a n) ≡ true → (k : ℕ) × (a ≤ k) × (k < a + n) × (test k ≡ true)
some_passes test a zero e = absurd (false≢true e)
some_passes test a (suc n) e = elim (or_cases (test a) (list_any test (range_with_len (a + 1) n)) e) [
  | inl here ↦ (a, omega arith, omega arith, here)
  | inr later ↦
      let s = some_passes test (a + 1) n later in
      let from = s.1 in
      let upto = s.2 in
      (s.0, omega arith, omega arith, s.3)
]

pub passing_at : (test : ℕ → Bool) (a n k : ℕ) → a ≤ k → k < a + n → test k ≡ true → list_any test (range_with_len a n) ≡ true
passing_at test a zero k from upto h = absurd (omega arith)
passing_at test a (suc n) k from upto h = elim (cases_eq k a) [
  | inl same ↦ or_left (test a) (list_any test (range_with_len (a + 1) n)) (subst (λ i. test i ≡ true) same h)
  | inr other ↦ or_right (test a) (list_any test (range_with_len (a + 1) n)) (passing_at test (a + 1) n k (omega arith) (omega arith) h)
]
