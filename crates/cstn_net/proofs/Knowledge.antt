-- What is known in a schedule, and which bounds hold by it.
use Rattle.std.proofs.Common.{ℕ, ◌≡◌, ◌⊎◌, inl, inr, ◌+◌, ◌<◌, ◌≤◌, Some, None, arith, refl, sym, subst, ◌∙◌}
use Rattle.std.specs.Prelude.{pos, ◌≤ℤ◌, ◌↔◌}
use Rattle.std.proofs.lemmas.Bool.{cases_lt}
use Rattle.std.proofs.lemmas.Int.{ints, by_lt_z}
use Rattle.std.proofs.lemmas.List.{get_or_past}
use Rattle.cstn_label.specs.Labels.{Label, Scenario, MarkFits, Holds, IsPossible, IsPlain, empty}
use Rattle.cstn_label.specs.Bounds.{Bound, Dominates}
use Rattle.cstn_label.proofs.LabelLemmas.{made_true, made_holds, made_agrees, possible_within}
use Rattle.cstn_net.specs.Networks.{Network, IsNetwork, Observes, count}
use Rattle.cstn_net.specs.Strategies.{Schedule, Table, IsKnown, Agrees}
use Rattle.cstn_net.specs.Bounds.{HoldsIn}

-- an observer is a time-point
pub observer_within : (net : Network) (x p : ℕ) → Observes net x p → x < count net
observer_within net x p o = elim (cases_lt x (count net)) [
  | inl h ↦ h
  | inr past ↦ let e : None ≡ Some p = sym (get_or_past net.observes x None past) ∙ o.what in cc
]

-- a time-point observes at most one proposition
pub one_observed : (net : Network) (x p q : ℕ) → Observes net x p → Observes net x q → p ≡ q
one_observed net x p q o r =
    let one = o.what in
    let other = r.what in
    cc

-- what is known stays known
pub known_later : (net : Network) (at : Schedule) (t u p : ℕ) → t ≤ u → IsKnown net at t p → IsKnown net at u p
known_later net at t u p upto k =
    let passed = k.passed in
    record { observer = k.observer; observes = k.observes; passed = omega arith }

-- a scenario agrees with what is known in it
pub agrees_itself : (net : Network) (at : Schedule) (t : ℕ) (s : Scenario) → Agrees net at t s s
agrees_itself net at t s = λ p k. refl

pub agrees_earlier : (net : Network) (at : Schedule) (t u : ℕ) (s r : Scenario) → t ≤ u →
    Agrees net at u s r → Agrees net at t s r
agrees_earlier net at t u s r upto agrees = λ p k. agrees p (known_later net at t u p upto k)

-- the reaction of an observed proposition has passed at t, or it hasn't and the proposition isn't known
pub known_or_not : (net : Network) (at : Schedule) (t x p : ℕ) → IsNetwork net → Observes net x p →
    (at x + net.reaction p ≤ t) ⊎ ((t < at x + net.reaction p) × (IsKnown net at t p → ⊥))
known_or_not net at t x p good o = elim (cases_lt t (at x + net.reaction p)) [
  | inl late ↦ inr (
    late,
    λ known.
        let same = good.one_observer known.observer x p known.observes o in
        let soon = subst (λ y. at y + net.reaction p ≤ t) same known.passed in
        omega arith,
  )
  | inr soon ↦ inl soon
]

-- what a time-point observes is known exactly once its reaction has passed
pub known_when_passed : (net : Network) (at : Schedule) (t x p : ℕ) → IsNetwork net → Observes net x p →
    IsKnown net at t p ↔ (at x + net.reaction p ≤ t)
known_when_passed net at t x p good o = (
  (λ known.
      let same = good.one_observer known.observer x p known.observes o in
      subst (λ y. at y + net.reaction p ≤ t) same known.passed),
  (λ passed. record { observer = x; observes = o; passed = passed }),
)

-- what a time-point observes isn't known yet at the time-point's own moment
pub unknown_at_observer : (net : Network) (at : Schedule) (x p : ℕ) → IsNetwork net → Observes net x p →
    IsKnown net at (at x) p → ⊥
unknown_at_observer net at x p good o known =
    let same = good.one_observer known.observer x p known.observes o in
    let soon = subst (λ y. at y + net.reaction p ≤ at x) same known.passed in
    let reacts = good.reacts x p o in
    omega arith

-- where a plain label is possible, it holds in a scenario that agrees with what is known
pub flipped : (net : Network) (at : Schedule) (t : ℕ) (s : Scenario) (a : Label) → IsPlain a →
    IsPossible (IsKnown net at t) s a → (r : Scenario) × Agrees net at t s r × Holds r a
flipped net at t s a plain possible =
    (made_true a s, made_agrees (IsKnown net at t) s a possible, made_holds a s plain)

-- a label that holds in a scenario that agrees with what is known is possible
pub holds_possible : (net : Network) (at : Schedule) (t : ℕ) (s r : Scenario) (a : Label) → Agrees net at t s r → Holds r a →
    IsPossible (IsKnown net at t) s a
holds_possible net at t s r a agrees holds p k = subst (λ v. MarkFits v (a p)) (agrees p k) (holds p)

-- the bound 0 with the empty label holds in every table
pub base_holds : (net : Network) (table : Table) (x : ℕ) →
    HoldsIn net table (record { node = x; least = pos 0; label = empty })
base_holds net table x = record { holds = λ s possible. omega (arith, ints) }

-- where a bound holds, each bound that it dominates holds
pub dominated_holds : (net : Network) (table : Table) (a b : Bound) → Dominates a b → HoldsIn net table a →
    HoldsIn net table b
dominated_holds net table a b over h = record {
  holds = λ s possible.
      let there = subst (λ x. IsPossible (IsKnown net (table s) (table s x)) s b.label) (sym over.node) possible in
      let asked = h.holds s (possible_within (IsKnown net (table s) (table s a.node)) s a.label b.label over.label there) in
      let same : table s a.node ≡ table s b.node = subst (λ x. table s a.node ≡ table s x) over.node refl in
      let least = over.least in
      omega (arith, ints);
}

-- a bound holds where, in each scenario, the moment is late enough or the label isn't possible
pub holds_by_cases : (net : Network) (table : Table) (b : Bound) →
    HoldsIn net table b ↔ ((s : Scenario) →
    (b.least ≤ℤ pos (table s b.node)) ⊎ (IsPossible (IsKnown net (table s) (table s b.node)) s b.label → ⊥))
holds_by_cases net table b = (
  (λ h s. by_lt_z (pos (table s b.node)) b.least
      (λ early. inr (λ possible. let asked = h.holds s possible in omega (arith, ints)))
      (λ late. inl late)),
  (λ h. record { holds = λ s possible. elim (h s) [ inl late ↦ late | inr impossible ↦ absurd (impossible possible) ] }),
)
