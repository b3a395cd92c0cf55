-- Networks: time-points, what they observe, and constraints between them.
use Rattle.std.specs.Prelude.{ℕ, zero, suc, ◌≡◌, ◌≢◌, ◌<◌, ◌≤◌, Bool, false, ◌==◌, List, Option, None, Some, length, slice_index_or, ℤ, pos, negsuc, ◌≤ℤ◌}
use Rattle.std.specs.List.{All, AllPairs, Contains}
use Rattle.cstn_label.specs.declared.marks.Mark.TheVariants.{Absent}
use Rattle.cstn_label.specs.Labels.{Label, IsPlain}
use Rattle.cstn_net.specs.Limits.{most_time_points, most_constraints, most_deadline, most_reaction, most_value, least_value}

-- in each scenario in which the label holds, `to` is executed at most `most` ticks after `from`
pub record Constraint : Type 0 where
  pub id : ℕ
  pub from : ℕ
  pub to : ℕ
  pub most : ℤ
  pub label : Label

-- the time-points are numbered from 0, the origin; `observes` has the proposition that each of them observes, if any, and
-- `reaction` has the ticks from the execution of a proposition's observer until the proposition is known
pub record Network : Type 0 where
  pub deadline : ℕ
  pub observes : List (Option ℕ)
  pub reaction : ℕ → ℕ
  pub constraints : List Constraint

-- how many time-points there are
abbrev pub count : Network → ℕ
count net = length net.observes

-- the time-point x observes the proposition p
pub record Observes (net : Network) (x p : ℕ) : Type 0 where
  pub what : slice_index_or net.observes x None ≡ Some p

-- no time-point observes anything
abbrev pub ObservesNothing : Network → Type 0
ObservesNothing net = (x p : ℕ) → Observes net x p → ⊥

-- what a time-point observes, if anything, is p
abbrev pub is_prop : ℕ → Option ℕ → Bool
is_prop p None = false
is_prop p (Some q) = q == p

-- the last moment at which a time-point may be executed: 0 for the origin, the deadline for every other
abbrev pub limit : Network → ℕ → ℕ
limit net zero = 0
limit net (suc x) = net.deadline

-- the label names observed propositions alone
abbrev pub IsOnObserved : Network → Label → Type 0
IsOnObserved net a = (p : ℕ) → a p ≢ Absent → (x : ℕ) × Observes net x p

-- the label names the proposition, which nothing observes
abbrev pub IsUnobserved : Network → Label → ℕ → Type 0
IsUnobserved net a p = (a p ≢ Absent) × ((x : ℕ) → Observes net x p → ⊥)

-- the proposition is the least that the label names and nothing observes
abbrev pub IsLeastUnobserved : Network → Label → ℕ → Type 0
IsLeastUnobserved net a p = IsUnobserved net a p × ((q : ℕ) → q < p → IsUnobserved net a q → ⊥)

-- the ends are time-points, and the label is plain and names observed propositions alone
pub record IsConstraint (net : Network) (c : Constraint) : Type 0 where
  pub from : c.from < count net
  pub to : c.to < count net
  pub plain : IsPlain c.label
  pub observed : IsOnObserved net c.label

-- each of these is a constraint of the network
abbrev pub AreConstraintsOf : Network → List Constraint → Type 0
AreConstraintsOf net cs = (c : Constraint) → Contains cs c → Contains net.constraints c

-- there is an origin, a proposition has at most one observer and a reaction of a tick or more, and each constraint has its
-- ends and its propositions in the network
pub record IsNetwork (net : Network) : Type 0 where
  pub origin : 0 < count net
  pub one_observer : (x y p : ℕ) → Observes net x p → Observes net y p → x ≡ y
  pub reacts : (x p : ℕ) → Observes net x p → 0 < net.reaction p
  pub constraints : All (IsConstraint net) net.constraints

-- the value of a constraint is from -1,000,000,000 to 1,000,000,000 ticks
abbrev pub IsValue : ℤ → Type 0
IsValue most = (least_value ≤ℤ most) × (most ≤ℤ pos most_value)

-- a network with ascending ids and with all numbers in range: 1,024 time-points, 52 propositions, reactions of 1,000 ticks,
-- 16,384 constraints and a deadline of 1,000,000 ticks at most
pub record IsWellFormed (net : Network) : Type 0 where
  pub network : IsNetwork net
  pub few_points : count net ≤ most_time_points
  pub letters : (x p : ℕ) → Observes net x p → p < 52
  pub soon : (x p : ℕ) → Observes net x p → net.reaction p ≤ most_reaction
  pub few_constraints : length net.constraints ≤ most_constraints
  pub ascending : AllPairs (λ b c. b.id < c.id) net.constraints
  pub values : All (λ c. IsValue c.most) net.constraints
  pub in_time : net.deadline ≤ most_deadline

-- these may be the constraints of a well-formed network that has the same time-points
pub record AreConstraintsFor (net : Network) (cs : List Constraint) : Type 0 where
  pub few : length cs ≤ most_constraints
  pub each : All (IsConstraint net) cs
  pub ascending : AllPairs (λ b c. b.id < c.id) cs
  pub values : All (λ c. IsValue c.most) cs
