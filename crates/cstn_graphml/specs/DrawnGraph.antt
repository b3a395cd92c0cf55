-- What was read of a graph so far.
use Rattle.std.specs.Prelude.{ℕ, List, [], ◌∷◌, ◌++◌, Option, Some, None, is_some, if◌then◌else◌, codes, ℤ}
use Rattle.cstn_label.specs.Labels.{Label, empty}
use Rattle.cstn_markup.specs.Bytes.{is_same, when}
use Rattle.cstn_text.specs.Names.{number_of}
use Rattle.cstn_element.specs.Elements.{Datum}

-- what a time-point observes: a proposition, and its reaction, after how many ticks the outcome is known
pub record Observation : Type 0 where
  pub prop : ℕ
  pub reaction : ℕ

-- the observation of a node by its proposition, if any, and its reaction; without a proposition the reaction is ignored
abbrev pub observation : Option ℕ → ℕ → Option Observation
observation (Some p) ticks = Some (record { prop = p; reaction = ticks })
observation None ticks = None

-- a constraint: where the label holds, `to` is at most `most` ticks after `from`
pub record DrawnConstraint : Type 0 where
  pub from : ℕ
  pub to : ℕ
  pub most : ℤ
  pub label : Label

-- What was read of a graph so far. `own` has the data elements of the graph itself, and `origin` is None until the node of the
-- origin was read. `names` begins with the origin; `observes` and `labels` are those of the time-points after it.
pub record DrawnGraph : Type 0 where
  pub own : List Datum
  pub deadline : Option ℕ
  pub origin : Option (Option Observation)
  pub origin_label : Label
  pub names : List (List ℕ)
  pub observes : List (Option Observation)
  pub labels : List Label
  pub constraints : List DrawnConstraint

abbrev pub origin_name : List ℕ
origin_name = codes "Z"

abbrev pub empty_graph : DrawnGraph
empty_graph = record { own = []; deadline = None; origin = None; origin_label = empty; names = origin_name ∷ []; observes = []; labels = []; constraints = [] }

-- the number of the node with this name, or None where none was read; the origin's is 0
abbrev pub node_of : List ℕ → DrawnGraph → Option ℕ
node_of name graph = if is_same name origin_name then when (is_some graph.origin) 0 else number_of graph.names name

-- the graph with a node more, what it observes, and its label
abbrev pub with_node : List ℕ → Option Observation → Label → DrawnGraph → DrawnGraph
with_node name observed label graph = if is_same name origin_name
    then record graph { origin = Some observed; origin_label = label }
    else record graph { names = graph.names ++ (name ∷ []); observes = graph.observes ++ (observed ∷ []); labels = graph.labels ++ (label ∷ []) }

-- the graph with a constraint more
abbrev pub with_drawn_constraint : DrawnConstraint → DrawnGraph → DrawnGraph
with_drawn_constraint c graph = record graph { constraints = graph.constraints ++ (c ∷ []) }

-- the graph with the deadline of a data element
abbrev pub with_deadline : Datum → ℕ → DrawnGraph → DrawnGraph
with_deadline d n graph = record graph { own = graph.own ++ (d ∷ []); deadline = Some n }
