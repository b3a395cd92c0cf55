-- The labelled network of a document, and what a builder is handed for its network.
use Rattle.std.specs.Prelude.{◌≡◌, ℕ, List, [], ◌∷◌, ◌++◌, map, Option, Some, None, option_map}
use Rattle.cstn_net.specs.declared.points.TimePoint.{TimePoint}
use Rattle.cstn_net.specs.declared.drafts.Draft.{Draft as LentDraft}
use Rattle.cstn_net.specs.declared.errors.NetError.{NetError}
use Rattle.cstn_net.specs.Networks.{Constraint, Network, IsWellFormed}
use Rattle.cstn_net.specs.Drafts.{BuilderParts, with_draft, constraints_from, IsLowestNetFault}
use Rattle.cstn_net.specs.Read.{NetworkParts, observed, first_reaction}
use Rattle.cstn_label.specs.declared.labels.Label.{Label}
use Rattle.cstn_label.specs.Read.{marks}
use Rattle.cstn_lift.specs.declared.errors.LiftError.{LiftError}
use Rattle.cstn_lift.specs.Labelled.{Labelled}
use Rattle.cstn_lift.specs.WellFormed.{IsLabelled}
use Rattle.cstn_lift.specs.Lowered.{numbered}
use Rattle.cstn_lift.specs.Faults.{HasLiftFault, IsLowestLiftFault}
use Rattle.cstn_graphml.specs.declared.drawn_graph.DrawnConstraint.{DrawnConstraint as Lent}
use Rattle.cstn_graphml.specs.declared.drawn_graph.Observation.{Observation as LentObservation}
use Rattle.cstn_graphml.specs.declared.drawn_graph.DrawnGraph.{DrawnGraph as LentGraph}
use Rattle.cstn_graphml.specs.DrawnGraph.{Observation, observation, DrawnConstraint}
use Rattle.cstn_graphml.specs.Document.{Parts}

-- the constraint that is drawn, under the id 0
abbrev pub constraint_drawn : DrawnConstraint → Constraint
constraint_drawn c = record { id = 0; from = c.from; to = c.to; most = c.most; label = c.label }

-- the constraints that are drawn, with ids from k on
abbrev pub numbered_drawn : ℕ → List DrawnConstraint → List Constraint
numbered_drawn k cs = numbered k (map constraint_drawn cs)

-- the proposition that is observed
abbrev pub observed_prop : Option Observation → Option ℕ
observed_prop observed = option_map (λ o. o.prop) observed

-- the reaction of what is observed in ticks, 1 where nothing is
abbrev pub observed_reaction : Option Observation → ℕ
observed_reaction (Some o) = o.reaction
observed_reaction None = 1

-- the network of a document: a proposition has the reaction of its observation, and ids are the places of the constraints
abbrev pub network_of : Parts → Network
network_of parts = record {
  deadline = parts.deadline;
  observes = map observed_prop parts.observes;
  reaction = first_reaction observed_prop observed_reaction parts.observes;
  constraints = numbered_drawn 0 parts.constraints;
}

-- the network of a document with the labels of its time-points
abbrev pub labelled_of : Parts → Labelled
labelled_of parts = record { base = network_of parts; labels = parts.labels }

abbrev pub point_of : Option LentObservation → TimePoint
point_of (Some o) = record { observes = Some o.prop; reaction = o.reaction }
point_of None = record { observes = None; reaction = 1 }

-- what a time-point of a builder observes
abbrev pub observation_of : TimePoint → Option Observation
observation_of t = observation (observed t) t.reaction

abbrev pub draft_of : Lent → LentDraft
draft_of c = record { from = c.from; to = c.to; most = c.most; label = c.label }

abbrev pub drawn_of : LentDraft → DrawnConstraint
drawn_of d = record { from = d.from; to = d.to; most = d.most; label = marks d.label }

-- a builder that was handed nothing yet
abbrev pub begun_builder : ℕ → BuilderParts
begun_builder deadline = record { deadline = deadline; points = []; drafts = [] }

-- the builder, once it was handed these time-points after its own
abbrev pub with_points : List (Option LentObservation) → BuilderParts → BuilderParts
with_points [] b = b
with_points (observed ∷ later) b = with_points later (record b { points = b.points ++ (point_of observed ∷ []) })

-- the builder, once it was handed these constraints after its own
abbrev pub with_drafts : List Lent → BuilderParts → BuilderParts
with_drafts [] b = b
with_drafts (c ∷ cs) b = with_drafts cs (with_draft (draft_of c) b)

-- what the origin observes: nothing where its node wasn't read
abbrev pub at_origin : Option (Option LentObservation) → Option LentObservation
at_origin (Some observed) = observed
at_origin None = None

-- the builder, once it was handed this deadline and what a graph holds
abbrev pub builder_of : ℕ → LentGraph → BuilderParts
builder_of deadline d = with_drafts d.constraints.list.items (with_points (at_origin d.origin ∷ d.observes.items) (begun_builder deadline))

-- a builder was handed exactly these parts
pub record HasParts (b : BuilderParts) (parts : Parts) : Type 0 where
  pub deadline : b.deadline ≡ parts.deadline
  pub observes : map observation_of b.points ≡ parts.observes
  pub constraints : map drawn_of b.drafts ≡ parts.constraints

-- values of the program hold exactly these parts
pub record IsHeld (parts : Parts) : Type 0 where
  pub builder : BuilderParts
  pub parts_are : HasParts builder parts
  pub labels : List Label
  pub labels_are : map marks labels ≡ parts.labels

-- the parts make no network, for this lowest fault
pub record IsUnfit (parts : Parts) (error : NetError) : Type 0 where
  pub builder : BuilderParts
  pub parts_are : HasParts builder parts
  pub fault : IsLowestNetFault builder error

-- the parts make a network, but no labelled one, for this lowest fault of the labels
pub record IsMislabelled (parts : Parts) (error : LiftError) : Type 0 where
  pub well_formed : IsWellFormed (network_of parts)
  pub fault : IsLowestLiftFault (labelled_of parts) error

-- the parts make a labelled network: its labels are in order, and it has no fault
pub record IsFit (parts : Parts) : Type 0 where
  pub labelled : IsLabelled (labelled_of parts)
  pub faultless : (error : LiftError) → HasLiftFault (labelled_of parts) error → ⊥

-- the network has what the builder was handed, and the ids of its constraints are their places
pub record IsBuilt (b : BuilderParts) (n : NetworkParts) : Type 0 where
  pub deadline : n.deadline ≡ b.deadline
  pub points : n.points ≡ b.points
  pub constraints : n.constraints ≡ constraints_from 0 b.drafts
