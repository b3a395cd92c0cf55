-- Lists of bounds to which the rules add nothing.
use Rattle.std.specs.Prelude.{ℕ, ◌<◌, List}
use Rattle.std.specs.List.{Contains}
use Rattle.cstn_label.specs.Bounds.{Bound, Dominates}
use Rattle.cstn_net.specs.Networks.{Network, Constraint, IsOnObserved, count}
use Rattle.cstn_rules.specs.Rules.{IsBase, IsChain, IsWait, Refutes}

-- some bound of the list dominates r
pub record IsCovered (bounds : List Bound) (r : Bound) : Type 0 where
  pub by : Bound
  pub in_list : Contains bounds by
  pub dominates : Dominates by r

-- The bounds are at time-points of the network and mark observed propositions alone, each conclusion of a rule from them is
-- covered by them, and none of them refutes the network.
pub record IsClosed (net : Network) (bounds : List Bound) : Type 0 where
  pub nodes : (b : Bound) → Contains bounds b → b.node < count net
  pub observed : (b : Bound) → Contains bounds b → IsOnObserved net b.label
  pub base : (r : Bound) → IsBase net r → IsCovered bounds r
  pub chain : (c : Constraint) (b r : Bound) → Contains net.constraints c → Contains bounds b → IsChain net c b r →
      IsCovered bounds r
  pub wait : (p : ℕ) (seen b r : Bound) → Contains bounds seen → Contains bounds b → IsWait net p seen b r →
      IsCovered bounds r
  pub none_refutes : (b : Bound) → Contains bounds b → Refutes net b → ⊥
