-- When two scenarios are told apart.
use Rattle.std.proofs.Common.{ℕ, ◌≡◌, inl, inr, ◌+◌, ◌<◌, ◌≤◌, min, arith, subst}
use Rattle.std.specs.Prelude.{◌↔◌}
use Rattle.std.proofs.lemmas.Bool.{cases_lt}
use Rattle.cstn_label.specs.Labels.{Scenario}
use Rattle.cstn_net.specs.Networks.{Network, Observes, count}
use Rattle.cstn_net.specs.Strategies.{Schedule, Agrees}

-- the time-points below x don't tell r from s by the moment t
abbrev pub IsAlikeBelow : Network → Schedule → Scenario → Scenario → ℕ → ℕ → Type 0
IsAlikeBelow net at s r t x = (y p : ℕ) → y < x → Observes net y p → at y + net.reaction p ≤ t → r p ≡ s p

-- where the time-points below x tell r from s from the moment a on, and x does from b on, all of them do from the lesser on
pub alike_more : (net : Network) (at : Schedule) (s r : Scenario) (t x a b : ℕ) → IsAlikeBelow net at s r t x ↔ (t < a) →
    ((p : ℕ) → Observes net x p → at x + net.reaction p ≤ t → r p ≡ s p) ↔ (t < b) → IsAlikeBelow net at s r t (x + 1) ↔ (t < min a b)
alike_more net at s r t x a b before here = (
  (λ all.
      let one = before.0 (λ y p y_in o soon. all y p (omega arith) o soon) in
      let other = here.0 (λ p o soon. all x p (omega arith) o soon) in
      omega arith),
  (λ early y p y_in o soon. elim (cases_lt y x) [
    | inl below ↦ before.1 (omega arith) y p below o soon
    | inr last ↦
        let is : y ≡ x = omega arith in
        here.1 (omega arith) p (subst (λ z. Observes net z p) is o) (subst (λ z. at z + net.reaction p ≤ t) is soon)
  ]),
)

-- once all time-points are counted, r agrees with what is known before the moment at which one of them tells it from s
pub alike_agrees : (net : Network) → ((x p : ℕ) → Observes net x p → x < count net) → (at : Schedule) (s r : Scenario) (t x a : ℕ) → count net ≤ x →
    IsAlikeBelow net at s r t x ↔ (t < a) → Agrees net at t s r ↔ (t < a)
alike_agrees net within at s r t x a all alike = (
  (λ agrees. alike.0 (λ y p y_in o soon. agrees p (record { observer = y; observes = o; passed = soon }))),
  (λ early p k.
      let there = within k.observer p k.observes in
      alike.1 early k.observer p (omega arith) k.observes k.passed),
)
