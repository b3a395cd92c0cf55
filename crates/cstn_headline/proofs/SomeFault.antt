-- A list of bounds is closed or has a first fault: it can't be that neither is so.
use Rattle.std.proofs.Common.{◌≡◌, ℕ, zero, suc, ◌+◌, ◌<◌, ◌≤◌, Bool, true, false, List, [], ◌∷◌, refl, sym, ap, ◌∙◌, inl, inr, arith}
use Rattle.std.specs.Prelude.{◌⊎◌, ◌==◌, ℤ, pos, ◌≤ℤ◌, int_lt, Option, None, Some, slice_get, slice_index_or}
use Rattle.std.specs.List.{Contains}
use Rattle.std.proofs.lemmas.Bool.{cases_Bool, cases_lt, false≢true, eqb-true, eq-eqb}
use Rattle.std.proofs.lemmas.Int.{ints}
use Rattle.std.proofs.lemmas.Option.{slice_get-get_or}
use Rattle.cstn_label.specs.Bounds.{Bound}
use Rattle.cstn_net.specs.Networks.{Network, count, limit}
use Rattle.cstn_rules.specs.Closed.{IsCovered, IsClosed}
use Rattle.cstn_rules.specs.Rules.{base}
use Rattle.cstn_label.specs.Tests.{dominates}
use Rattle.cstn_check.proofs.Decided.{dominates_true, true_dominates}
use Rattle.cstn_closed.specs.Faults.{Fault, bad, no_base, no_chain, no_wait, kind, place, other, IsFitBound, IsFault, IsBefore, IsFirstFault, IsFaultless}
use Rattle.cstn_closed.proofs.FaultLemmas.{faultless_closed}
use Rattle.cstn_label.specs.OnLetters.{IsOnLetters}

-- ---- faults in their order

-- what holds of a fault where it holds of each one before it holds of all
module _ (P : Fault → Type 0) (step : (f : Fault) → ((g : Fault) → IsBefore g f → P g) → P f) where
  by_other : (k n : ℕ) → ((g : Fault) → kind g < k → P g) → ((g : Fault) → kind g ≤ k → place g < n → P g) → (m : ℕ) (f : Fault) → kind f ≤ k → place f ≤ n → other f < m → P f
  by_other k n lower nearer zero f is at here = absurd (omega (arith, here))
  by_other k n lower nearer (suc m) f is at here = step f (λ g before. elim before [
    | inl less ↦ lower g (omega (arith, is, less))
    | inr same ↦ let kinds = same.0 in elim same.1 [
      | inl less ↦ nearer g (omega (arith, is, kinds)) (omega (arith, at, less))
      | inr there ↦ let places = there.0 in let less = there.1 in
          by_other k n lower nearer m g (omega (arith, is, kinds)) (omega (arith, at, places)) (omega (arith, here, less))
    ]
  ])

  by_place : (k : ℕ) → ((g : Fault) → kind g < k → P g) → (n : ℕ) (f : Fault) → kind f ≤ k → place f < n → P f
  by_place k lower zero f is at = absurd (omega (arith, at))
  by_place k lower (suc n) f is at = by_other k n lower (by_place k lower n) (other f + 1) f is (omega (arith, at)) (omega arith)

  by_kind : (k : ℕ) (f : Fault) → kind f < k → P f
  by_kind zero f is = absurd (omega (arith, is))
  by_kind (suc k) f is = by_place k (by_kind k) (place f + 1) f (omega (arith, is)) (omega arith)

  each_fault : (f : Fault) → P f
  each_fault f = by_kind (kind f + 1) f (omega arith)

-- a list without a first fault has none
pub faultless : (net : Network) (bounds : List Bound) → ((f : Fault) → IsFirstFault net bounds f → ⊥) → IsFaultless net bounds
faultless net bounds none = each_fault (λ f. IsFault net bounds f → ⊥) (λ f before fault. none f (record { fault = fault; before = before }))

-- ---- what is so where it can't be otherwise

at_most : (a b : ℤ) → ((a ≤ℤ b → ⊥) → ⊥) → a ≤ℤ b
at_most a b never = by_less (int_lt b a) refl
  where
    above : int_lt b a ≡ true → a ≤ℤ b → ⊥
    above less upto = grind (arith, ints)

    by_less : (less : Bool) → int_lt b a ≡ less → a ≤ℤ b
    by_less true is = absurd (never (above is))
    by_less false is = grind (arith, ints)

below : (k n : ℕ) → ((k < n → ⊥) → ⊥) → k < n
below k n never = elim (cases_lt k n) [
  | inl less ↦ less
  | inr past ↦ absurd (never (λ less. omega (arith, less, past)))
]

-- some option is this number, or none is
some_is : (os : List (Option ℕ)) (p : ℕ) → ((x : ℕ) × (slice_index_or os x None ≡ Some p)) ⊎ ((x : ℕ) → slice_index_or os x None ≡ Some p → ⊥)
some_is [] p = inr none
  where
    none : (x : ℕ) → slice_index_or [] x None ≡ Some p → ⊥
    none zero e = let f : ⊥ = cc in f
    none (suc x) e = let f : ⊥ = cc in f
some_is (o ∷ os) p = elim (here o) [
  | inl is ↦ inl (0, is)
  | inr other ↦ elim (some_is os p) [
    | inl found ↦ inl (suc found.0, found.1)
    | inr none ↦ inr (later other none)
  ]
]
  where
    here : (o : Option ℕ) → (o ≡ Some p) ⊎ (o ≡ Some p → ⊥)
    here None = inr (λ e. let f : ⊥ = cc in f)
    here (Some q) = elim (cases_Bool (q == p)) [
      | inl same ↦ inl (ap (λ (n : ℕ). Some n) (eqb-true q p same))
      | inr differ ↦ inr (λ e. let same : q ≡ p = cc in false≢true (sym differ ∙ eq-eqb q p same))
    ]

    later : (o ≡ Some p → ⊥) → ((x : ℕ) → slice_index_or os x None ≡ Some p → ⊥) → (x : ℕ) → slice_index_or (o ∷ os) x None ≡ Some p → ⊥
    later other none zero e = other e
    later other none (suc x) e = none x e

fits : (net : Network) (b : Bound) → ((IsFitBound net b → ⊥) → ⊥) → IsFitBound net b
fits net b never = record {
  range = record {
    node = below b.node (count net) (λ not. never (λ fit. not fit.range.node));
    low = at_most (pos 0) b.least (λ not. never (λ fit. not fit.range.low));
    high = at_most b.least (pos (limit net b.node + 1)) (λ not. never (λ fit. not fit.range.high));
  };
  observed = λ p marked. elim (some_is net.observes p) [
    | inl found ↦ (found.0, record { what = found.1 })
    | inr none ↦ absurd (never (λ fit. let seen = fit.observed p marked in none seen.0 seen.1.what))
  ];
  harmless = λ refutes. never (λ fit. fit.harmless refutes);
}

first_or_later : (b : Bound) (bounds : List Bound) (x : Bound) → Contains (b ∷ bounds) x → (b ≡ x) ⊎ Contains bounds x
first_or_later b bounds x (zero, inside, e) = inl e
first_or_later b bounds x (suc k, inside, e) = inr (k, omega (arith, inside), e)

contained_later : (b : Bound) (bounds : List Bound) (x : Bound) → Contains bounds x → Contains (b ∷ bounds) x
contained_later b bounds x has = (suc has.0, let inside = has.1 in omega (arith, inside), has.2)

-- a list whose labels mark the letters alone covers a bound, or it doesn't
covers_or : (bounds : List Bound) → ((b : Bound) → Contains bounds b → IsOnLetters b.label) → (r : Bound) → IsCovered bounds r ⊎ (IsCovered bounds r → ⊥)
covers_or [] small r = inr (λ covered. let inside = covered.in_list.1 in omega (arith, inside))
covers_or (b ∷ bounds) small r = elim (cases_Bool (dominates b r)) [
  | inl is ↦ inl (record { by = b; in_list = (0, omega arith, refl); dominates = true_dominates b r (small b (0, omega arith, refl)) is })
  | inr not ↦ elim (covers_or bounds (λ x has. small x (contained_later b bounds x has)) r) [
    | inl c ↦ inl (record { by = c.by; in_list = contained_later b bounds c.by c.in_list; dominates = c.dominates })
    | inr none ↦ inr (λ c. elim (first_or_later b bounds c.by c.in_list) [
      | inl same ↦ false≢true (sym not ∙ ap (λ (x : Bound). dominates x r) same ∙ dominates_true c.by r c.dominates)
      | inr has ↦ none (record { by = c.by; in_list = has; dominates = c.dominates })
    ])
  ]
]

-- ---- lists without a fault

-- a list without a fault is closed, where its labels mark the letters alone
pub faultless_is_closed : (net : Network) (bounds : List Bound) → ((b : Bound) → Contains bounds b → IsOnLetters b.label) → IsFaultless net bounds → IsClosed net bounds
faultless_is_closed net bounds small none = faultless_closed net bounds
    (λ b has. fits net b (λ unfit. none (bad has.0) (b, there b has, unfit)))
    (λ x inside. covers (base x) (λ uncovered. none (no_base x) (inside, uncovered)))
    (λ b has c in_net r is. covers r (λ uncovered. none (no_chain c.id has.0) (c, b, r, in_net, refl, there b has, is, uncovered)))
    (λ seen has b also p r is. covers r (λ uncovered. none (no_wait has.0 also.0) (p, seen, b, r, there seen has, there b also, is, uncovered)))
  where
    there : (b : Bound) (has : Contains bounds b) → slice_get bounds has.0 ≡ Some b
    there b has = slice_get-get_or bounds has.0 b has.1 ∙ ap (λ (x : Bound). Some x) has.2

    covers : (r : Bound) → ((IsCovered bounds r → ⊥) → ⊥) → IsCovered bounds r
    covers r never = elim (covers_or bounds small r) [
      | inl covered ↦ covered
      | inr none ↦ absurd (never none)
    ]
