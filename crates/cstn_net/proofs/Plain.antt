-- Networks that observe nothing.
use Rattle.std.proofs.Common.{ℕ, ◌≡◌, ◌<◌, ◌≤◌, inl, inr, false, refl}
use Rattle.std.specs.Prelude.{◌↔◌}
use Rattle.std.specs.List.{Contains}
use Rattle.std.proofs.lemmas.List.Elements.{All-contains}
use Rattle.cstn_label.specs.Labels.{Scenario, Holds}
use Rattle.cstn_label.proofs.MarkLemmas.{absent_or_not, fits_absent}
use Rattle.cstn_net.specs.Networks.{Network, IsNetwork, IsConstraint, Constraint, Observes, count}
use Rattle.cstn_net.specs.Strategies.{Table, IsStrategy, IsConsistent, IsLeast, Schedule, IsSchedule}

-- where nothing is observed, each constraint's label holds everywhere
pub all_hold : (net : Network) → IsNetwork net → ((x p : ℕ) → Observes net x p → ⊥) → (c : Constraint) →
    Contains net.constraints c → (s : Scenario) → Holds s c.label
all_hold net good none c has s p = elim (absent_or_not (c.label p)) [
  | inl gone ↦ fits_absent (s p) (c.label p) gone
  | inr marked ↦
      let one = All-contains (IsConstraint net) net.constraints c good.constraints has in
      let o = one.observed p marked in
      absurd (none o.0 p o.1)
]

-- a network that observes nothing is consistent exactly where there is a schedule of it
pub plain_strategy : (net : Network) → IsNetwork net → ((x p : ℕ) → Observes net x p → ⊥) →
    IsConsistent net ↔ ((at : Schedule) × IsSchedule net at)
plain_strategy net good none = (
  (λ c. (
    c.0 (λ p. false),
    record {
      within = c.1.within (λ p. false);
      meets = λ k has. c.1.meets (λ p. false) k has (all_hold net good none k has (λ p. false));
    },
  )),
  (λ a. (
    (λ s. a.0),
    record {
      within = λ s. a.1.within;
      dynamic = λ s r x here agrees. refl;
      meets = λ s k has h. a.1.meets k has;
    },
  )),
)

-- where nothing is observed, nothing is ever known, so all rows of a strategy are the same
pub plain_rows : (net : Network) → IsNetwork net → ((x p : ℕ) → Observes net x p → ⊥) → (table : Table) →
    IsStrategy net table ↔ (((s : Scenario) → IsSchedule net (table s)) ×
    ((s r : Scenario) (x : ℕ) → x < count net → table r x ≡ table s x))
plain_rows net good none table = (
  (λ strategy. (
    (λ s. record {
      within = strategy.within s;
      meets = λ c has. strategy.meets s c has (all_hold net good none c has s);
    }),
    (λ s r x here. strategy.dynamic s r x here (λ p k. absurd (none k.observer p k.observes))),
  )),
  (λ rows. record {
    within = λ s. (rows.0 s).within;
    dynamic = λ s r x here agrees. rows.1 s r x here;
    meets = λ s c has holds. (rows.0 s).meets c has;
  }),
)

-- where nothing is observed, a least moment is the least in any schedule
pub plain_least : (net : Network) → IsNetwork net → ((x p : ℕ) → Observes net x p → ⊥) → (s : Scenario) (x t : ℕ) →
    IsLeast net s x t ↔ (((at : Schedule) × IsSchedule net at × (at x ≡ t)) × ((at : Schedule) → IsSchedule net at → t ≤ at x))
plain_least net good none s x t = (
  (λ h. (
    (h.reached.0 s, ((plain_rows net good none h.reached.0).0 h.reached.1).0 s, h.reached.2),
    (λ at schedule. h.least (λ r. at) (one_row at schedule)),
  )),
  (λ h. record {
    reached = ((λ r. h.0.0), one_row h.0.0 h.0.1, h.0.2);
    least = λ table strategy. h.1 (table s) (((plain_rows net good none table).0 strategy).0 s);
  }),
)
  where
    one_row : (at : Schedule) → IsSchedule net at → IsStrategy net (λ r. at)
    one_row at schedule = (plain_rows net good none (λ r. at)).1 ((λ s. schedule), (λ s r x here. refl))
