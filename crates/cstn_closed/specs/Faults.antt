-- The faults of a list of bounds: why it isn't closed for a network, or has least values out of range.
use Rattle.std.specs.Prelude.{ℕ, ◌≡◌, ◌<◌, ◌⊎◌, List, Some, slice_get}
use Rattle.std.specs.List.{Contains}
use Rattle.cstn_label.specs.Bounds.{Bound}
use Rattle.cstn_net.specs.Networks.{Network, Constraint, IsOnObserved, count}
use Rattle.cstn_rules.specs.Rules.{IsBoundOf, IsChain, IsWait, Refutes, base}
use Rattle.cstn_rules.specs.Closed.{IsCovered}

-- the bound is at a time-point of the network, with a least value from 0 to the limit + 1; it marks observed propositions alone,
-- and doesn't refute the network
pub record IsFitBound (net : Network) (b : Bound) : Type 0 where
  pub range : IsBoundOf net b
  pub observed : IsOnObserved net b.label
  pub harmless : Refutes net b → ⊥

-- where a fault may be: at a bound, by its place; at a time-point; at a constraint, by its id, and a bound, by its place; or at
-- two bounds, by their places, the first of which is at an observer. Places count from 0
pub data Fault : Type 0 where
  bad : ℕ → Fault
  no_base : ℕ → Fault
  no_chain : ℕ → ℕ → Fault
  no_wait : ℕ → ℕ → Fault

-- the bound at the place i doesn't fit the network; the base bound of x is dominated by no bound of the list; chain of the
-- constraint and the bound at i, or wait of the bounds at i and j, gives a bound that is dominated by none
abbrev pub IsFault : Network → List Bound → Fault → Type 0
IsFault net bounds (bad i) = (b : Bound) × (slice_get bounds i ≡ Some b) × (IsFitBound net b → ⊥)
IsFault net bounds (no_base x) = (x < count net) × (IsCovered bounds (base x) → ⊥)
IsFault net bounds (no_chain id i) =
    (c : Constraint) × (b : Bound) × (r : Bound) × Contains net.constraints c × (c.id ≡ id) × (slice_get bounds i ≡ Some b) ×
    IsChain net c b r × (IsCovered bounds r → ⊥)
IsFault net bounds (no_wait i j) =
    (p : ℕ) × (seen : Bound) × (b : Bound) × (r : Bound) × (slice_get bounds i ≡ Some seen) × (slice_get bounds j ≡ Some b) ×
    IsWait net p seen b r × (IsCovered bounds r → ⊥)

-- faults are ordered by their kind, then by the place, or the time-point, and then by the constraint, or the second place
abbrev pub kind : Fault → ℕ
kind (bad i) = 0
kind (no_base x) = 1
kind (no_chain id i) = 2
kind (no_wait i j) = 3

abbrev pub place : Fault → ℕ
place (bad i) = i
place (no_base x) = x
place (no_chain id i) = i
place (no_wait i j) = i

abbrev pub other : Fault → ℕ
other (bad i) = 0
other (no_base x) = 0
other (no_chain id i) = id
other (no_wait i j) = j

abbrev pub IsBefore : Fault → Fault → Type 0
IsBefore f g =
    (kind f < kind g) ⊎ ((kind f ≡ kind g) × ((place f < place g) ⊎ ((place f ≡ place g) × (other f < other g))))

-- a fault of the list, before which it has none
pub record IsFirstFault (net : Network) (bounds : List Bound) (f : Fault) : Type 0 where
  pub fault : IsFault net bounds f
  pub before : (g : Fault) → IsBefore g f → IsFault net bounds g → ⊥

-- the list has no fault
abbrev pub IsFaultless : Network → List Bound → Type 0
IsFaultless net bounds = (f : Fault) → IsFault net bounds f → ⊥
