-- Faults, in their order.
use Rattle.std.proofs.Common.{ℕ, ◌≡◌, ◌<◌, ◌⊎◌, ◌↔◌, List, Some, arith, inl, inr, refl, sym, subst, ap}
use Rattle.std.specs.Prelude.{slice_get}
use Rattle.std.specs.List.{Contains}
use Rattle.std.proofs.lemmas.Bool.{cases_lt}
use Rattle.cstn_facts.proofs.Members.{is_there}
use Rattle.cstn_label.specs.Bounds.{Bound}
use Rattle.cstn_net.specs.Networks.{Network, count}
use Rattle.cstn_rules.specs.Rules.{IsBoundOf, base}
use Rattle.cstn_rules.specs.Closed.{IsCovered, IsClosed}
use Rattle.cstn_closed.specs.declared.answers.ClosedAnswer.{ClosedAnswer}
use Rattle.cstn_closed.specs.declared.answers.ClosedAnswer.TheVariants.{Accepted}
use Rattle.cstn_closed.specs.Faults.{Fault, bad, no_base, no_chain, no_wait, IsFault, IsFitBound, IsBefore, IsFirstFault, IsFaultless, kind, place, other}
use Rattle.cstn_closed.specs.Instances.{AreFit, AreBasesCovered, AreChainsCovered, AreWaitsCovered, IsSoBefore, IsFirstOfKind, IsFirstThere}

-- a bound that fits isn't bad, and a chain or a wait that is covered is no fault
module _ (net : Network) (bounds : List Bound) where
  fit_there : (i : ℕ) → ((b : Bound) → slice_get bounds i ≡ Some b → IsFitBound net b) → IsFault net bounds (bad i) → ⊥
  fit_there i fit fault = fault.2 (fit fault.0 fault.1)

  chain_there : (id i : ℕ) → ((b : Bound) → slice_get bounds i ≡ Some b → AreChainsCovered net bounds b) → IsFault net bounds (no_chain id i) → ⊥
  chain_there id i covered fault = fault.7 (covered fault.1 fault.5 fault.0 fault.3 fault.2 fault.6)

  wait_there : (i j : ℕ) → ((b : Bound) → slice_get bounds i ≡ Some b → AreWaitsCovered net bounds b) → IsFault net bounds (no_wait i j) → ⊥
  wait_there i j covered fault = fault.7 (covered fault.1 fault.4 fault.2 (is_there bounds j fault.2 fault.5) fault.0 fault.3 fault.6)

  -- where all bounds fit, none is bad; where all bases, all chains or all waits are covered, there is no fault of their kind
  pub none_bad : AreFit net bounds → (i : ℕ) → IsFault net bounds (bad i) → ⊥
  none_bad fit i = fit_there i (λ b there. fit b (is_there bounds i b there))

  pub none_without_base : AreBasesCovered net bounds → (x : ℕ) → IsFault net bounds (no_base x) → ⊥
  none_without_base covered x fault = fault.1 (covered x fault.0)

  pub none_chained : ((b : Bound) → Contains bounds b → AreChainsCovered net bounds b) → (id i : ℕ) → IsFault net bounds (no_chain id i) → ⊥
  none_chained covered id i = chain_there id i (λ b there. covered b (is_there bounds i b there))

  pub none_awaited : ((b : Bound) → Contains bounds b → AreWaitsCovered net bounds b) → (i j : ℕ) → IsFault net bounds (no_wait i j) → ⊥
  none_awaited covered i j = wait_there i j (λ b there. covered b (is_there bounds i b there))

  -- the first bound that doesn't fit
  pub bad_first : (i : ℕ) (b : Bound) → IsSoBefore (IsFitBound net) bounds i → slice_get bounds i ≡ Some b → (IsFitBound net b → ⊥) → IsFirstOfKind net bounds (bad i)
  bad_first i b before there unfit = record { fault = (b, there, unfit); before = earlier }
    where
      earlier : (g : Fault) → kind g ≡ 0 → IsBefore g (bad i) → IsFault net bounds g → ⊥
      earlier (bad j) same (inl lower) fault = omega arith
      earlier (bad j) same (inr (alike, inl lower)) fault = fit_there j (λ c at. before j c lower at) fault
      earlier (bad j) same (inr (alike, inr (at, lower))) fault = omega arith
      earlier (no_base x) same less fault = omega arith
      earlier (no_chain id j) same less fault = omega arith
      earlier (no_wait j k) same less fault = omega arith

  -- the first time-point without a base bound
  pub base_first : (x : ℕ) → x < count net → ((y : ℕ) → y < x → IsCovered bounds (base y)) → (IsCovered bounds (base x) → ⊥) → IsFirstOfKind net bounds (no_base x)
  base_first x inside before uncovered = record { fault = (inside, uncovered); before = earlier }
    where
      earlier : (g : Fault) → kind g ≡ 1 → IsBefore g (no_base x) → IsFault net bounds g → ⊥
      earlier (bad j) same less fault = omega arith
      earlier (no_base y) same (inl lower) fault = omega arith
      earlier (no_base y) same (inr (alike, inl lower)) fault = fault.1 (before y lower)
      earlier (no_base y) same (inr (alike, inr (at, lower))) fault = omega arith
      earlier (no_chain id j) same less fault = omega arith
      earlier (no_wait j k) same less fault = omega arith

  -- the first bound with a chain that isn't covered
  pub chain_first : (id i : ℕ) → IsSoBefore (AreChainsCovered net bounds) bounds i → IsFirstThere net bounds (no_chain id i) → IsFirstOfKind net bounds (no_chain id i)
  chain_first id i before there = record { fault = there.fault; before = earlier }
    where
      earlier : (g : Fault) → kind g ≡ 2 → IsBefore g (no_chain id i) → IsFault net bounds g → ⊥
      earlier (bad j) same less fault = omega arith
      earlier (no_base y) same less fault = omega arith
      earlier (no_chain other j) same (inl lower) fault = omega arith
      earlier (no_chain other j) same (inr (alike, inl lower)) fault = chain_there other j (λ b at. before j b lower at) fault
      earlier (no_chain other j) same (inr (alike, inr (at, lower))) fault = there.before (no_chain other j) refl at lower fault
      earlier (no_wait j k) same less fault = omega arith

  -- the first bound with a wait that isn't covered
  pub wait_first : (i j : ℕ) → IsSoBefore (AreWaitsCovered net bounds) bounds i → IsFirstThere net bounds (no_wait i j) → IsFirstOfKind net bounds (no_wait i j)
  wait_first i j before there = record { fault = there.fault; before = earlier }
    where
      earlier : (g : Fault) → kind g ≡ 3 → IsBefore g (no_wait i j) → IsFault net bounds g → ⊥
      earlier (bad k) same less fault = omega arith
      earlier (no_base y) same less fault = omega arith
      earlier (no_chain id k) same less fault = omega arith
      earlier (no_wait k l) same (inl lower) fault = omega arith
      earlier (no_wait k l) same (inr (alike, inl lower)) fault = wait_there k l (λ b at. before k b lower at) fault
      earlier (no_wait k l) same (inr (alike, inr (at, lower))) fault = there.before (no_wait k l) refl at lower fault

  -- the first fault of its kind is the first of all where there is none of the kinds before
  pub first_of_all : (f : Fault) → IsFirstOfKind net bounds f → ((g : Fault) → kind g < kind f → IsFault net bounds g → ⊥) → IsFirstFault net bounds f
  first_of_all f first lower = record { fault = first.fault; before = earlier }
    where
      earlier : (g : Fault) → IsBefore g f → IsFault net bounds g → ⊥
      earlier g (inl less) fault = lower g less fault
      earlier g (inr later) fault = first.before g later.0 (inr later) fault

  -- the first fault of each of the four kinds is the first of all, where the conditions of the kinds before hold
  pub first_bad : (i : ℕ) → IsFirstOfKind net bounds (bad i) → IsFirstFault net bounds (bad i)
  first_bad i first = first_of_all (bad i) first (λ g less fault. omega arith)

  pub first_base : (x : ℕ) → AreFit net bounds → IsFirstOfKind net bounds (no_base x) → IsFirstFault net bounds (no_base x)
  first_base x fit first = first_of_all (no_base x) first lower
    where
      lower : (g : Fault) → kind g < 1 → IsFault net bounds g → ⊥
      lower (bad i) less fault = none_bad fit i fault
      lower (no_base y) less fault = omega arith
      lower (no_chain id i) less fault = omega arith
      lower (no_wait i j) less fault = omega arith

  pub first_chain : (id i : ℕ) → AreFit net bounds → AreBasesCovered net bounds → IsFirstOfKind net bounds (no_chain id i) → IsFirstFault net bounds (no_chain id i)
  first_chain id i fit bases first = first_of_all (no_chain id i) first lower
    where
      lower : (g : Fault) → kind g < 2 → IsFault net bounds g → ⊥
      lower (bad j) less fault = none_bad fit j fault
      lower (no_base y) less fault = none_without_base bases y fault
      lower (no_chain other j) less fault = omega arith
      lower (no_wait j k) less fault = omega arith

  pub first_wait : (i j : ℕ) → AreFit net bounds → AreBasesCovered net bounds → ((b : Bound) → Contains bounds b → AreChainsCovered net bounds b) →
      IsFirstOfKind net bounds (no_wait i j) → IsFirstFault net bounds (no_wait i j)
  first_wait i j fit bases chains first = first_of_all (no_wait i j) first lower
    where
      lower : (g : Fault) → kind g < 3 → IsFault net bounds g → ⊥
      lower (bad k) less fault = none_bad fit k fault
      lower (no_base y) less fault = none_without_base bases y fault
      lower (no_chain id k) less fault = none_chained chains id k fault
      lower (no_wait k l) less fault = omega arith

  -- a list that has no fault of the four kinds is faultless
  pub no_fault : AreFit net bounds → AreBasesCovered net bounds → ((b : Bound) → Contains bounds b → AreChainsCovered net bounds b) →
      ((b : Bound) → Contains bounds b → AreWaitsCovered net bounds b) → IsFaultless net bounds
  no_fault fit bases chains waits (bad i) fault = none_bad fit i fault
  no_fault fit bases chains waits (no_base x) fault = none_without_base bases x fault
  no_fault fit bases chains waits (no_chain id i) fault = none_chained chains id i fault
  no_fault fit bases chains waits (no_wait i j) fault = none_awaited waits i j fault

  -- such a list is closed
  pub faultless_closed : AreFit net bounds → AreBasesCovered net bounds → ((b : Bound) → Contains bounds b → AreChainsCovered net bounds b) →
      ((b : Bound) → Contains bounds b → AreWaitsCovered net bounds b) → IsClosed net bounds
  faultless_closed fit bases chains waits = record {
    nodes = λ b has. (fit b has).range.node;
    observed = λ b has. (fit b has).observed;
    base = λ r is. subst (IsCovered bounds) (sym is.gives) (bases r.node is.node);
    chain = λ c b r in_net has is. chains b has c in_net r is;
    wait = λ p seen b r has also is. waits seen has b also p r is;
    none_refutes = λ b has. (fit b has).harmless;
  }

  -- a closed list with least values in range has no fault
  pub closed_faultless : IsClosed net bounds → ((b : Bound) → Contains bounds b → IsBoundOf net b) → IsFaultless net bounds
  closed_faultless closed range = no_fault
      (λ b has. record { range = range b has; observed = closed.observed b has; harmless = closed.none_refutes b has })
      (λ x inside. closed.base (base x) (record { node = inside; gives = refl }))
      (λ b has c in_net r is. closed.chain c b r in_net has is)
      (λ seen has b also p r is. closed.wait p seen b r has also is)

-- of two faults one is before the other, or they are the same
one_of : (f g : Fault) → (IsBefore f g ⊎ IsBefore g f) ⊎ (f ≡ g)
one_of f g = elim (cases_lt (kind f) (kind g)) [
  | inl lower ↦ inl (inl (inl lower))
  | inr past ↦ elim (cases_lt (kind g) (kind f)) [
    | inl higher ↦ inl (inr (inl higher))
    | inr same ↦ elim (cases_lt (place f) (place g)) [
      | inl lower ↦ inl (inl (inr (omega arith, inl lower)))
      | inr later ↦ elim (cases_lt (place g) (place f)) [
        | inl higher ↦ inl (inr (inr (omega arith, inl higher)))
        | inr here ↦ elim (cases_lt (other f) (other g)) [
          | inl lower ↦ inl (inl (inr (omega arith, inr (omega arith, lower))))
          | inr behind ↦ elim (cases_lt (other g) (other f)) [
            | inl higher ↦ inl (inr (inr (omega arith, inr (omega arith, higher))))
            | inr there ↦ inr (alike f g (omega arith) (omega arith) (omega arith))
          ]
        ]
      ]
    ]
  ]
]
  where
    alike : (f g : Fault) → kind f ≡ kind g → place f ≡ place g → other f ≡ other g → f ≡ g
    alike (bad i) (bad j) k p o = ap bad p
    alike (no_base x) (no_base y) k p o = ap no_base p
    alike (no_chain id i) (no_chain jd j) k p o = cc
    alike (no_wait i j) (no_wait k l) m p o = cc
    alike f g k p o = absurd (omega arith)

-- there is one first fault
pub one_first : (net : Network) (bounds : List Bound) (f g : Fault) → IsFirstFault net bounds f → IsFirstFault net bounds g → f ≡ g
one_first net bounds f g first also = elim (one_of f g) [
  | inl (inl before) ↦ absurd (also.before f before first.fault)
  | inl (inr behind) ↦ absurd (first.before g behind also.fault)
  | inr same ↦ same
]

-- where there is a fault and the answer isn't `Accepted`, the answer is `Accepted` exactly where the list has no fault
pub refused : (net : Network) (bounds : List Bound) (f : Fault) (a : ClosedAnswer) → (a ≡ Accepted → ⊥) → IsFirstFault net bounds f →
    (a ≡ Accepted) ↔ IsFaultless net bounds
refused net bounds f a other first = (λ is. absurd (other is), λ none. absurd (none f first.fault))
