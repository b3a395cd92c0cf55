-- The moments that a list of bounds asks for.
use Rattle.std.specs.Prelude.{ℕ, zero, suc, ◌≡◌, Bool, true, cond, ◌&&◌, ◌==◌, max, List, [], ◌∷◌, Option, Some, None, slice_index_or, ℤ, pos, negsuc, ◌<ℤ◌}
use Rattle.std.specs.List.{Contains}
use Rattle.cstn_label.specs.Labels.{Label, Scenario, IsPossible}
use Rattle.cstn_label.specs.Tests.{fits}
use Rattle.cstn_net.specs.Networks.{Network, count}
use Rattle.cstn_net.specs.Strategies.{Schedule, Table, IsStrategy, IsKnown}
use Rattle.cstn_net.specs.Bounds.{HoldsIn}
use Rattle.cstn_label.specs.Bounds.{Bound}

-- the mark on what is observed, if anything is, fits the scenario
abbrev pub fits_seen : Scenario → Label → Option ℕ → Bool
fits_seen s a None = true
fits_seen s a (Some p) = fits (s p) (a p)

-- whether the marks on what the first k time-points observe fit the scenario
abbrev pub fits_upto : Network → Scenario → Label → ℕ → Bool
fits_upto net s a zero = true
fits_upto net s a (suc k) = fits_seen s a (slice_index_or net.observes k None) && fits_upto net s a k

-- the moment of a least value, and 0 of one below 0
abbrev pub moment_of : ℤ → ℕ
moment_of (pos n) = n
moment_of (negsuc n) = 0

-- the greatest least value of the bounds that pass the test, or 0
abbrev pub greatest : (Bound → Bool) → List Bound → ℕ
greatest test [] = 0
greatest test (b ∷ bs) = cond (test b) (max (moment_of b.least) (greatest test bs)) (greatest test bs)

-- each time-point is executed at the greatest moment that a bound whose label holds asks for
abbrev pub asked : Network → List Bound → Scenario → Schedule
asked net bounds s = λ x. greatest (λ b. (b.node == x) && fits_upto net s b.label (count net)) bounds

-- each bound of the list holds in every strategy
abbrev pub AllSound : Network → List Bound → Type 0
AllSound net bounds = (table : Table) → IsStrategy net table → (b : Bound) → Contains bounds b → HoldsIn net table b

-- some bound holds x back at t: it asks for a later moment, and its label is possible by what is known at t
pub record IsHeldBack (net : Network) (bounds : List Bound) (s : Scenario) (at : Schedule) (t x : ℕ) : Type 0 where
  pub bound : Bound
  pub in_list : Contains bounds bound
  pub node : bound.node ≡ x
  pub later : pos t <ℤ bound.least
  pub possible : IsPossible (IsKnown net at t) s bound.label
