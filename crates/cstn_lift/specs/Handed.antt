-- What a builder was handed on the way to the lowered network.
use Rattle.std.specs.Prelude.{ℕ, ◌≡◌, ◌++◌, List, Some, map, take}
use Rattle.std.specs.List.{All}
use Rattle.cstn_net.specs.declared.points.TimePoint.{TimePoint}
use Rattle.cstn_net.specs.declared.drafts.Draft.{Draft}
use Rattle.cstn_net.specs.Networks.{Network, Constraint}
use Rattle.cstn_net.specs.Read.{observed, the_constraint}
use Rattle.cstn_net.specs.Drafts.{constraints_from}
use Rattle.cstn_lift.specs.Lowered.{numbered}

-- the first n time-points of the network, with the reactions of those that observe
pub record HasPoints (net : Network) (n : ℕ) (points : List TimePoint) : Type 0 where
  pub observes : map observed points ≡ take n net.observes
  pub reactions : All (λ t. (p : ℕ) → observed t ≡ Some p → t.reaction ≡ net.reaction p) points

-- these constraints, under ids from 0
abbrev pub HasConstraints : List Constraint → List Draft → Type 0
HasConstraints cs drafts = map the_constraint (constraints_from 0 drafts) ≡ numbered 0 cs

-- these constraints come behind all that were handed in before
abbrev pub AddsConstraints : List Draft → List Draft → List Constraint → Type 0
AddsConstraints old new more = (cs : List Constraint) → HasConstraints cs old → HasConstraints (cs ++ more) new
