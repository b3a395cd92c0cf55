-- The greatest moment that is asked for: some bound asks for it, and none for a later one.
use Rattle.std.proofs.Common.{ℕ, zero, suc, ◌≡◌, ◌⊎◌, inl, inr, ◌<◌, max, Bool, true, ◌&&◌, List, [], ◌∷◌, Option, Some, None, get_or, length, eqb, arith, refl, sym, subst, ◌∙◌}
use Rattle.std.specs.Prelude.{ℤ, pos, negsuc, ◌≤ℤ◌, slice_index_or}
use Rattle.std.specs.List.{Contains}
use Rattle.std.proofs.lemmas.Int.{ints}
use Rattle.std.proofs.lemmas.Bool.{cases_Bool, cases_lt, cond-true, cond-false, and_parts, and_from, eqb-true, eq-eqb}
use Rattle.cstn_label.specs.Labels.{Label, Scenario, Holds, MarkFits, empty}
use Rattle.cstn_label.specs.declared.marks.Mark.TheVariants.{Absent}
use Rattle.cstn_label.proofs.MarkLemmas.{absent_or_not, fits_absent, mark_within_absent, fits_true, true_fits}
use Rattle.cstn_net.specs.Networks.{Network, IsNetwork, Observes, IsOnObserved, count}
use Rattle.cstn_label.specs.Bounds.{Bound}
use Rattle.cstn_plan.specs.Asked.{fits_seen, fits_upto, moment_of, greatest, asked}
use Rattle.cstn_rules.specs.Closed.{IsClosed}
use Rattle.cstn_net.proofs.Knowledge.{observer_within}

seen_at : (s : Scenario) (a : Label) (o : Option ℕ) (p : ℕ) → o ≡ Some p → fits_seen s a o ≡ true → MarkFits (s p) (a p)
seen_at s a o p e h = fits_true (s p) (a p) (rw e at h)

upto_at : (net : Network) (s : Scenario) (a : Label) (n j p : ℕ) → j < n → Observes net j p →
    fits_upto net s a n ≡ true → MarkFits (s p) (a p)
upto_at net s a zero j p lt o h = absurd (omega arith)
upto_at net s a (suc n) j p lt o h =
    let both = and_parts (fits_seen s a (slice_index_or net.observes n None)) (fits_upto net s a n) h in
    elim (cases_lt j n) [
      | inl below ↦ upto_at net s a n j p below o both.1
      | inr last ↦
          let here : j ≡ n = omega arith in
          seen_at s a (slice_index_or net.observes n None) p (subst (λ k. slice_index_or net.observes k None ≡ Some p) here o.what) both.0
    ]

seen_from : (s : Scenario) (a : Label) (o : Option ℕ) → Holds s a → fits_seen s a o ≡ true
seen_from s a None h = refl
seen_from s a (Some p) h = true_fits (s p) (a p) (h p)

pub upto_from : (net : Network) (s : Scenario) (a : Label) (n : ℕ) → Holds s a → fits_upto net s a n ≡ true
upto_from net s a zero h = refl
upto_from net s a (suc n) h =
    and_from (fits_seen s a (slice_index_or net.observes n None)) (fits_upto net s a n)
    (seen_from s a (slice_index_or net.observes n None) h) (upto_from net s a n h)

-- a label of observed propositions holds where the marks on what each time-point observes fit
pub holds_from : (net : Network) (s : Scenario) (a : Label) → IsOnObserved net a →
    ((j p : ℕ) → Observes net j p → MarkFits (s p) (a p)) → Holds s a
holds_from net s a observed h = λ p. elim (absent_or_not (a p)) [
  | inl none ↦ fits_absent (s p) (a p) none
  | inr marked ↦ let o = observed p marked in h o.0 p o.1
]

moment_upper : (z : ℤ) → z ≤ℤ pos (moment_of z)
moment_upper (pos n) = omega (arith, ints)
moment_upper (negsuc n) = omega (arith, ints)

-- no bound that passes the test asks for more
pub greatest_upper : (test : Bound → Bool) (bs : List Bound) (b : Bound) (k : ℕ) → k < length bs → get_or bs k b ≡ b →
    test b ≡ true → b.least ≤ℤ pos (greatest test bs)
greatest_upper test [] b k h e t = absurd (omega arith)
greatest_upper test (x ∷ xs) b zero h e t =
    let tx : test x ≡ true = subst (λ y. test y ≡ true) (sym e) t in
    let g = cond-true (test x) (max (moment_of x.least) (greatest test xs)) (greatest test xs) tx in
    let up = subst (λ y. y.least ≤ℤ pos (moment_of x.least)) e (moment_upper x.least) in
    omega (arith, ints)
greatest_upper test (x ∷ xs) b (suc k) h e t =
    let up = greatest_upper test xs b k (omega arith) e t in
    elim (cases_Bool (test x)) [
      | inl yes_x ↦
          let g = cond-true (test x) (max (moment_of x.least) (greatest test xs)) (greatest test xs) yes_x in
          omega (arith, ints)
      | inr no_x ↦
          let g = cond-false (test x) (max (moment_of x.least) (greatest test xs)) (greatest test xs) no_x in
          omega (arith, ints)
    ]

-- some bound of the list passes the test and asks for n or more
pub record Attains (test : Bound → Bool) (bs : List Bound) (n : ℕ) : Type 0 where
  pub bound : Bound
  pub in_list : Contains bs bound
  pub passes : test bound ≡ true
  pub least : pos n ≤ℤ bound.least

attains_later : (test : Bound → Bool) (x : Bound) (xs : List Bound) (n : ℕ) → Attains test xs n → Attains test (x ∷ xs) n
attains_later test x xs n a = record {
  bound = a.bound;
  in_list = (suc a.in_list.0, let h = a.in_list.1 in omega arith, a.in_list.2);
  passes = a.passes;
  least = a.least;
}

moment_attained : (z : ℤ) (n : ℕ) → 0 < n → n ≡ moment_of z → pos n ≤ℤ z
moment_attained (pos m) n h e = omega (arith, ints)
moment_attained (negsuc m) n h e = absurd (omega arith)

pub greatest_attained : (test : Bound → Bool) (bs : List Bound) →
    (greatest test bs ≡ 0) ⊎ Attains test bs (greatest test bs)
greatest_attained test [] = inl refl
greatest_attained test (x ∷ xs) = elim (cases_Bool (test x)) [
  | inl yes_x ↦
      let g = cond-true (test x) (max (moment_of x.least) (greatest test xs)) (greatest test xs) yes_x in
      elim (cases_lt (greatest test xs) (moment_of x.least)) [
        | inl more ↦ inr (record {
          bound = x;
          in_list = (0, omega arith, refl);
          passes = yes_x;
          least = moment_attained x.least (greatest test (x ∷ xs)) (omega arith) (omega arith);
        })
        | inr no_more ↦
            let same : greatest test xs ≡ greatest test (x ∷ xs) = omega arith in
            elim (greatest_attained test xs) [
              | inl none ↦ inl (sym same ∙ none)
              | inr a ↦ inr (subst (λ n. Attains test (x ∷ xs) n) same (attains_later test x xs (greatest test xs) a))
            ]
      ]
  | inr no_x ↦
      let g = cond-false (test x) (max (moment_of x.least) (greatest test xs)) (greatest test xs) no_x in
      elim (greatest_attained test xs) [
        | inl none ↦ inl (g ∙ none)
        | inr a ↦ inr (subst (λ n. Attains test (x ∷ xs) n) (sym g) (attains_later test x xs (greatest test xs) a))
      ]
]

-- ---- the moments that `asked` gives

-- a bound of the list for x, whose label holds, that asks for the moment t
pub record Asks (net : Network) (bounds : List Bound) (s : Scenario) (t x : ℕ) : Type 0 where
  pub bound : Bound
  pub in_list : Contains bounds bound
  pub node : bound.node ≡ x
  pub holds : Holds s bound.label
  pub least : pos t ≤ℤ bound.least

module _ (net : Network) (bounds : List Bound) (s : Scenario) (wf : IsNetwork net) (closed : IsClosed net bounds) where
  pub asked_upper : (b : Bound) → Contains bounds b → Holds s b.label → b.least ≤ℤ pos (asked net bounds s b.node)
  asked_upper b has holds =
      greatest_upper (λ c. eqb c.node b.node && fits_upto net s c.label (count net)) bounds b has.0 has.1 has.2
      (and_from (eqb b.node b.node) (fits_upto net s b.label (count net)) (eq-eqb b.node b.node refl)
      (upto_from net s b.label (count net) holds))

  -- the bound that dominates the base bound asks for 0
  asks_zero : (x : ℕ) → x < count net → Asks net bounds s 0 x
  asks_zero x here =
      let c = closed.base (record { node = x; least = pos 0; label = empty }) (record { node = here; gives = refl }) in
      record {
        bound = c.by;
        in_list = c.in_list;
        node = c.dominates.node;
        least = c.dominates.least;
        holds = λ p. fits_absent (s p) (c.by.label p) (mark_within_absent (c.by.label p) Absent (c.dominates.label p) refl);
      }

  pub asked_attained : (x : ℕ) → x < count net → Asks net bounds s (asked net bounds s x) x
  asked_attained x here =
      let test : Bound → Bool = λ c. eqb c.node x && fits_upto net s c.label (count net) in
      elim (greatest_attained test bounds) [
        | inl none ↦ subst (λ t. Asks net bounds s t x) (sym none) (asks_zero x here)
        | inr a ↦
            let both = and_parts (eqb a.bound.node x) (fits_upto net s a.bound.label (count net)) a.passes in
            record {
              bound = a.bound;
              in_list = a.in_list;
              node = eqb-true a.bound.node x both.0;
              least = a.least;
              holds = holds_from net s a.bound.label (closed.observed a.bound a.in_list)
                  (λ j p o. upto_at net s a.bound.label (count net) j p (observer_within net j p o) o both.1);
            }
      ]
