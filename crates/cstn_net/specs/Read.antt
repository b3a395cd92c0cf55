-- How the program's networks and constraints are read as those of the definitions.
use Rattle.std.specs.Prelude.{ℕ, Bool, ◌==◌, ◌<◌, List, [], ◌∷◌, Option, map, option_map, if◌then◌else◌, not, ℤ}
use Rattle.std.specs.List.{filter}
use Rattle.cstn_label.specs.Read.{marks}
use Rattle.cstn_label.specs.declared.props.Prop.{Prop}
use Rattle.cstn_net.specs.declared.constraints.Constraint.{Constraint}
use Rattle.cstn_net.specs.declared.points.TimePoint.{TimePoint}
use Rattle.cstn_net.specs.Networks.{Constraint as TheConstraint, Network, IsValue, is_prop}

-- what a network holds; `spare` is how many constraints can still be put in without taking memory
pub record NetworkParts : Type 0 where
  pub deadline : ℕ
  pub points : List TimePoint
  pub constraints : List Constraint
  pub spare : ℕ

-- a constraint, with its ends as numbers and its label as marks
abbrev pub the_constraint : Constraint → TheConstraint
the_constraint c = record { id = c.id; from = c.from.0; to = c.to.0; most = c.most; label = marks c.label }

-- the number of a proposition, if there is one
abbrev pub prop_number : Option Prop → Option ℕ
prop_number o = option_map (λ p. p.index) o

-- the number of the proposition that a time-point observes
abbrev pub observed : TimePoint → Option ℕ
observed t = prop_number t.observes

-- the reaction of the first of these that observes p, and 1 where none does, by what each observes and by its reaction
abbrev pub first_reaction : {X : Type 0} → (X → Option ℕ) → (X → ℕ) → List X → ℕ → ℕ
first_reaction observes reaction [] p = 1
first_reaction observes reaction (x ∷ xs) p = if is_prop p (observes x) then reaction x else first_reaction observes reaction xs p

-- the reaction of the first time-point that observes p, and 1 where none does
abbrev pub reaction_of : List TimePoint → ℕ → ℕ
reaction_of points p = first_reaction observed (λ t. t.reaction) points p

-- the network that a program's network stands for
abbrev pub the_network : NetworkParts → Network
the_network n = record {
  deadline = n.deadline;
  observes = map observed n.points;
  reaction = reaction_of n.points;
  constraints = map the_constraint n.constraints;
}

-- a constraint between the first n time-points, with its value in range
pub record IsInRange (n : ℕ) (c : Constraint) : Type 0 where
  pub from : c.from.0 < n
  pub to : c.to.0 < n
  pub value : IsValue c.most

-- the constraint has this id
abbrev pub has_id : ℕ → Constraint → Bool
has_id id c = c.id == id

-- the constraints without the one of this id
abbrev pub without_id : ℕ → List Constraint → List Constraint
without_id id cs = filter (λ c. not (has_id id c)) cs

-- the constraint, with another value where it has this id
abbrev pub with_most : ℕ → ℤ → Constraint → Constraint
with_most id most c = if has_id id c then record c { most = most } else c
