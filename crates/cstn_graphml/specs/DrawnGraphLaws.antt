-- What holds of everything that was read of a graph.
use Rattle.std.specs.Prelude.{ℕ, ◌≡◌, ◌<◌, ◌+◌, List, ◌∷◌, length, Option, Some, None}
use Rattle.std.specs.List.{All}
use Rattle.cstn_element.specs.NumberTexts.{IsReaction}
use Rattle.cstn_element.specs.LabelTexts.{IsOfLiterals}
use Rattle.cstn_graphml.specs.DrawnGraph.{Observation, DrawnGraph, DrawnConstraint, origin_name}
use Rattle.cstn_graphml.specs.Document.{or_nothing}

-- both ends are among the first n time-points
abbrev pub IsDrawnAmong : ℕ → DrawnConstraint → Type 0
IsDrawnAmong n c = (c.from < n) × (c.to < n)

-- the reaction of what is observed is from 1 to 1,000 ticks
abbrev pub IsWithReaction : Option Observation → Type 0
IsWithReaction (Some o) = IsReaction o.reaction
IsWithReaction None = Unit {0}

-- what is observed is a proposition that has a letter
abbrev pub IsLettered : Option Observation → Type 0
IsLettered (Some o) = o.prop < 52
IsLettered None = Unit {0}

-- The name of the origin stands first, and each name after it has an entry in `observes` and in `labels`. Each constraint is
-- between time-points with names, labels consist of literals, and what is observed has a letter and a reaction in range.
pub record IsDrawnGraph (d : DrawnGraph) : Type 0 where
  pub later : List (List ℕ)
  pub first : d.names ≡ origin_name ∷ later
  pub each : length d.names ≡ length d.observes + 1
  pub labelled : length d.names ≡ length d.labels + 1
  pub among : All (IsDrawnAmong (length d.names)) d.constraints
  pub origin_timely : IsWithReaction (or_nothing d.origin)
  pub timely : All IsWithReaction d.observes
  pub origin_lettered : IsLettered (or_nothing d.origin)
  pub lettered : All IsLettered d.observes
  pub literals : All (λ c. IsOfLiterals c.label) d.constraints
  pub origin_literals : IsOfLiterals d.origin_label
  pub label_literals : All IsOfLiterals d.labels
