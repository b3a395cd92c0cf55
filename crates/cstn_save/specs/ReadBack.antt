-- What the canonical document says of a labelled network.
use Rattle.std.specs.Prelude.{◌≡◌, ℕ, ◌<◌, List, length, map, slice_index_or}
use Rattle.cstn_lift.specs.Labelled.{Labelled}
use Rattle.cstn_net.specs.Networks.{Network, Constraint, Observes}
use Rattle.cstn_graphml.specs.DrawnGraph.{DrawnConstraint}
use Rattle.cstn_save.specs.Canonical.{timed_observations}
use Rattle.cstn_graphml.specs.Document.{Parts}

-- a constraint without its id
abbrev pub without_its_id : Constraint → DrawnConstraint
without_its_id c = record { from = c.from; to = c.to; most = c.most; label = c.label }

-- the names and the labelled network, but for the ids of its constraints
abbrev pub parts : Labelled → List (List ℕ) → Parts
parts m names = record {
  deadline = m.base.deadline;
  names = names;
  observes = timed_observations m.base;
  labels = m.labels;
  constraints = map without_its_id m.base.constraints;
}

-- the ids are from 0 up, without a gap
abbrev pub AreNumbered : List Constraint → Type 0
AreNumbered cs = (k : ℕ) (d : Constraint) → k < length cs → (slice_index_or cs k d).id ≡ k

-- the two networks are the same but for the ids of their constraints and the reactions of what nothing observes
pub record AreSameButIds (read net : Network) : Type 0 where
  pub deadline : read.deadline ≡ net.deadline
  pub observes : read.observes ≡ net.observes
  pub reaction : (x p : ℕ) → Observes net x p → read.reaction p ≡ net.reaction p
  pub constraints : map without_its_id read.constraints ≡ map without_its_id net.constraints
