-- Dynamic tables: scenarios that agree with what is known have the same past.
use Rattle.std.proofs.Common.{ℕ, zero, suc, ◌≡◌, ◌⊎◌, inl, inr, ◌+◌, ◌<◌, ◌≤◌, arith, sym}
use Rattle.std.specs.Prelude.{◌↔◌}
use Rattle.cstn_label.specs.Labels.{Scenario}
use Rattle.cstn_net.specs.Networks.{Network, IsNetwork, Observes, count}
use Rattle.cstn_net.specs.Strategies.{Table, IsKnown, Agrees, IsDynamic, IsNeverLater, IsLeast}
use Rattle.cstn_net.proofs.Knowledge.{observer_within, agrees_earlier}

-- scenarios that agree on the observed propositions have the same moments in a dynamic table
pub same_moments : (net : Network) (table : Table) (s r : Scenario) (x : ℕ) → IsDynamic net table → x < count net →
    ((y p : ℕ) → Observes net y p → r p ≡ s p) → table r x ≡ table s x
same_moments net table s r x dynamic here agree = dynamic s r x here (λ p k. agree k.observer p k.observes)

module _ (net : Network) (table : Table) (good : IsNetwork net) (never : IsNeverLater net table) where
  -- each proposition that is known in r at the moment of x there has the same value in s, by induction on its observer's
  -- moment
  known_there : (s r : Scenario) (x n : ℕ) → Agrees net (table s) (table s x) s r → table r x ≤ table s x →
      (j p : ℕ) → table r j < n → Observes net j p → table r j + net.reaction p ≤ table r x → s p ≡ r p
  known_there s r x zero agrees upto j p lt o soon = absurd (omega arith)
  known_there s r x (suc n) agrees upto j p lt o soon =
      let alike : Agrees net (table r) (table r j) r s = λ q k.
      let early = k.passed in
      let reacts = good.reacts k.observer q k.observes in
      known_there s r x n agrees upto k.observer q (omega arith) k.observes (omega arith) in
      let earlier = never r s j (observer_within net j p o) alike in
      sym (agrees p (record { observer = j; observes = o; passed = omega arith }))

  -- a table is dynamic where each time-point is no later in scenarios that agree with what is known at its moment
  pub dynamic_from_one_side : IsDynamic net table
  dynamic_from_one_side s r x here agrees =
      let upto = never s r x here agrees in
      let back : Agrees net (table r) (table r x) r s = λ p k.
      known_there s r x (suc (table r k.observer)) agrees upto k.observer p (omega arith) k.observes k.passed in
      let downto = never r s x here back in
      omega arith

pub one_sided : (net : Network) (table : Table) → IsNetwork net → IsDynamic net table ↔ IsNeverLater net table
one_sided net table good = (
  (λ dynamic s r x here agrees. let same = dynamic s r x here agrees in omega arith),
  dynamic_from_one_side net table good,
)

module _ (net : Network) (table : Table) (good : IsNetwork net) (dynamic : IsDynamic net table) where
  past : (s r : Scenario) (t n : ℕ) → Agrees net (table s) t s r → (j p : ℕ) → table r j < n → Observes net j p →
      table r j + net.reaction p ≤ t → s p ≡ r p
  past s r t zero agrees j p lt o soon = absurd (omega arith)
  past s r t (suc n) agrees j p lt o soon =
      let back : Agrees net (table r) (table r j) r s = λ q k.
      let early = k.passed in
      let reacts = good.reacts k.observer q k.observes in
      past s r t n agrees k.observer q (omega arith) k.observes (omega arith) in
      let same = dynamic r s j (observer_within net j p o) back in
      sym (agrees p (record { observer = j; observes = o; passed = omega arith }))

  -- agreement with what is known is symmetric
  pub agrees_back : (s r : Scenario) (t : ℕ) → Agrees net (table s) t s r → Agrees net (table r) t r s
  agrees_back s r t agrees = λ p k.
      past s r t (suc (table r k.observer)) agrees k.observer p (omega arith) k.observes k.passed

  -- scenarios that agree on what is known at t have the same moments up to t
  pub same_past : (s r : Scenario) (t x : ℕ) → x < count net → Agrees net (table s) t s r →
      (table s x ≤ t) ⊎ (table r x ≤ t) → table r x ≡ table s x
  same_past s r t x here agrees (inl early) =
      dynamic s r x here (agrees_earlier net (table s) (table s x) t s r early agrees)
  same_past s r t x here agrees (inr early) =
      sym (dynamic r s x here (agrees_earlier net (table r) (table r x) t r s early (agrees_back s r t agrees)))

  -- in scenarios that agree on what is known at t, the same is known at t
  pub same_known : (s r : Scenario) (t p : ℕ) → Agrees net (table s) t s r → IsKnown net (table s) t p →
      IsKnown net (table r) t p
  same_known s r t p agrees k =
      let passed = k.passed in
      let same = same_past s r t k.observer (observer_within net k.observer p k.observes) agrees (inl (omega arith)) in
      record { observer = k.observer; observes = k.observes; passed = omega arith }

-- a time-point has at most one least moment in a scenario
pub one_least : (net : Network) (s : Scenario) (x t u : ℕ) → IsLeast net s x t → IsLeast net s x u → t ≡ u
one_least net s x t u here there =
    let upto = here.least there.reached.0 there.reached.1 in
    let downto = there.least here.reached.0 here.reached.1 in
    let at_t = here.reached.2 in
    let at_u = there.reached.2 in
    omega arith
