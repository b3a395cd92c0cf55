-- What a list of bounds covers, instance by instance.
use Rattle.std.specs.Prelude.{ℕ, ◌≡◌, ◌<◌, List, Some, slice_get}
use Rattle.std.specs.List.{Contains}
use Rattle.cstn_label.specs.Bounds.{Bound}
use Rattle.cstn_net.specs.Networks.{Network, Constraint, count}
use Rattle.cstn_rules.specs.Rules.{IsChain, IsWait, base}
use Rattle.cstn_rules.specs.Closed.{IsCovered}
use Rattle.cstn_closed.specs.Faults.{Fault, IsFault, IsFitBound, kind, place, other, IsBefore}

-- each bound of the list fits the network
abbrev pub AreFit : Network → List Bound → Type 0
AreFit net bounds = (b : Bound) → Contains bounds b → IsFitBound net b

-- the base bounds are covered
abbrev pub AreBasesCovered : Network → List Bound → Type 0
AreBasesCovered net bounds = (x : ℕ) → x < count net → IsCovered bounds (base x)

-- what chain derives from the constraint and the bound is covered
abbrev pub IsChainCovered : Network → List Bound → Constraint → Bound → Type 0
IsChainCovered net bounds c b = (r : Bound) → IsChain net c b r → IsCovered bounds r

-- for each constraint, what chain derives from it and the bound is covered
abbrev pub AreChainsCovered : Network → List Bound → Bound → Type 0
AreChainsCovered net bounds b = (c : Constraint) → Contains net.constraints c → IsChainCovered net bounds c b

-- what wait derives from the two bounds is covered
abbrev pub IsWaitCovered : Network → List Bound → Bound → Bound → Type 0
IsWaitCovered net bounds seen b = (p : ℕ) (r : Bound) → IsWait net p seen b r → IsCovered bounds r

-- for each bound of the list, what wait derives from `seen` and it is covered
abbrev pub AreWaitsCovered : Network → List Bound → Bound → Type 0
AreWaitsCovered net bounds seen = (b : Bound) → Contains bounds b → IsWaitCovered net bounds seen b

-- P holds of the bound at each place before i
abbrev pub IsSoBefore : (Bound → Type 0) → List Bound → ℕ → Type 0
IsSoBefore P bounds i = (j : ℕ) (b : Bound) → j < i → slice_get bounds j ≡ Some b → P b

-- P holds of the bound at the place k
abbrev pub IsSoAt : (Bound → Type 0) → List Bound → ℕ → Type 0
IsSoAt P bounds k = (b : Bound) → slice_get bounds k ≡ Some b → P b

-- chain derives from the constraint and the bound, or wait from the two bounds, what the list doesn't cover
abbrev pub HasUncoveredChain : Network → List Bound → Constraint → Bound → Type 0
HasUncoveredChain net bounds c b = (r : Bound) × IsChain net c b r × (IsCovered bounds r → ⊥)

abbrev pub HasUncoveredWait : Network → List Bound → Bound → Bound → Type 0
HasUncoveredWait net bounds seen b = (p : ℕ) × (r : Bound) × IsWait net p seen b r × (IsCovered bounds r → ⊥)

-- a fault of the list, before which it has none of the same kind
pub record IsFirstOfKind (net : Network) (bounds : List Bound) (f : Fault) : Type 0 where
  pub fault : IsFault net bounds f
  pub before : (g : Fault) → kind g ≡ kind f → IsBefore g f → IsFault net bounds g → ⊥

-- a fault of the list, before which it has none of the same kind and place
pub record IsFirstThere (net : Network) (bounds : List Bound) (f : Fault) : Type 0 where
  pub fault : IsFault net bounds f
  pub before : (g : Fault) → kind g ≡ kind f → place g ≡ place f → other g < other f → IsFault net bounds g → ⊥
