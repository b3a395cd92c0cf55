-- The table of observers, which has the first time-point that observes each proposition.
use Rattle.std.specs.Prelude.{ℕ, ◌≡◌, ◌≢◌, ◌<◌, ◌≤◌, List, Option, None, Some, is_some, length, slice_index_or, slice_set, map, if◌then◌else◌}
use Rattle.cstn_label.specs.declared.marks.Mark.TheVariants.{Absent}
use Rattle.cstn_label.specs.declared.nodes.NodeId.{NodeId}
use Rattle.cstn_label.specs.Labels.{Label}
use Rattle.cstn_net.specs.declared.constraints.Constraint.{Constraint}
use Rattle.cstn_net.specs.declared.points.TimePoint.{TimePoint}
use Rattle.cstn_net.specs.Networks.{IsWellFormed}
use Rattle.cstn_net.specs.declared.links.Chain.{Chain}
use Rattle.cstn_net.specs.Links.{AreLinked, ends}
use Rattle.cstn_net.specs.Read.{the_network, observed}

-- the table has the first observer of each proposition
pub record KnowsObservers (observes : List (Option ℕ)) (table : List (Option NodeId)) : Type 0 where
  pub right : (p : ℕ) (x : NodeId) → slice_index_or table p None ≡ Some x → slice_index_or observes x.0 None ≡ Some p
  pub first : (p x : ℕ) → slice_index_or observes x None ≡ Some p →
      (y : NodeId) × (slice_index_or table p None ≡ Some y) × (y.0 ≤ x)

-- the table with the time-point x entered as the observer of this proposition, unless the proposition has one already
abbrev pub noted : List (Option NodeId) → NodeId → Option ℕ → List (Option NodeId)
noted table x None = table
noted table x (Some p) = if is_some (slice_index_or table p None) then table else slice_set table p (Some x)

-- the label names p, for which the table has no observer
pub record IsUnseen (table : List (Option NodeId)) (a : Label) (p : ℕ) : Type 0 where
  pub named : a p ≢ Absent
  pub unseen : slice_index_or table p None ≡ None

-- the table has an observer for each proposition that the label names
abbrev pub SeesAll : List (Option NodeId) → Label → Type 0
SeesAll table a = (q : ℕ) → IsUnseen table a q → ⊥

-- p is the least proposition that the label names and for which the table has no observer
abbrev pub IsLeastUnseen : List (Option NodeId) → Label → ℕ → Type 0
IsLeastUnseen table a p = IsUnseen table a p × ((q : ℕ) → q < p → IsUnseen table a q → ⊥)

-- the time-point x observes p, whose first observer y is another
pub record IsTwin (table : List (Option NodeId)) (observes : Option ℕ) (x : NodeId) (p : ℕ) (y : NodeId) : Type 0 where
  pub observed : observes ≡ Some p
  pub first : slice_index_or table p None ≡ Some y
  pub other : y ≢ x

-- no other time-point is the first observer of what x observes
abbrev pub HasNoTwin : List (Option NodeId) → Option ℕ → NodeId → Type 0
HasNoTwin table observes x = (p : ℕ) (y : NodeId) → IsTwin table observes x p y → ⊥

-- what stays true of a network of the program: its table of observers is right, it is well-formed, and its links are right
pub record IsKept (deadline : ℕ) (points : List TimePoint) (table : List (Option NodeId)) (constraints : List Constraint)
    (chains : List (Option Chain)) (nexts : List (Option ℕ)) : Type 0 where
  pub observers : KnowsObservers (map observed points) table
  pub well_formed : IsWellFormed (the_network (record { deadline = deadline; points = points; constraints = constraints; spare = 0 }))
  pub linked : AreLinked (ends constraints) chains nexts
  pub wide : length chains ≡ length points
