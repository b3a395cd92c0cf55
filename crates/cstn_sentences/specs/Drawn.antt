-- The graph of a plan, and what is kept of a plan's meaning.
use Rattle.std.specs.Prelude.{◌≡◌, take, [], None, Result, Ok}
use Rattle.cstn_graphml.specs.DrawnGraph.{DrawnGraph}
use Rattle.cstn_graphml.specs.DrawnGraphLaws.{IsDrawnGraph}
use Rattle.cstn_sentences.specs.Refusals.{PlanRefusal}
use Rattle.cstn_sentences.specs.Results.{◌>>?◌}
use Rattle.cstn_sentences.specs.Declarations.{Declared}
use Rattle.cstn_sentences.specs.Meaning.{Meaning}

-- what the lines declare and mean, as a graph without a deadline
abbrev pub graph_of : Declared → Meaning → DrawnGraph
graph_of d m = record {
  own = [];
  deadline = None;
  origin = d.origin;
  origin_label = m.origin_label;
  names = d.names;
  observes = d.observes;
  labels = m.labels;
  constraints = m.constraints;
}

-- the meaning with the first 16,385 of its constraints, which are one more than a network holds
abbrev pub kept_meaning : Meaning → Meaning
kept_meaning m = record m { constraints = take 16385 m.constraints }

-- what is kept of the meaning, where it wasn't refused
abbrev pub kept_meant : Result Meaning PlanRefusal → Result Meaning PlanRefusal
kept_meant told = told >>? λ m. Ok (kept_meaning m)

-- the lines mean the whole, of which the same is kept as of m
pub record IsKeptOfMeant (told : Result Meaning PlanRefusal) (m : Meaning) : Type 0 where
  pub whole : Meaning
  pub whole_is : told ≡ Ok whole
  pub kept_is : kept_meaning m ≡ kept_meaning whole

-- the same is kept of m as of the whole, whose graph is between its time-points
pub record IsKeptOfWhole (d : Declared) (m whole : Meaning) : Type 0 where
  pub kept_is : kept_meaning m ≡ kept_meaning whole
  pub drawn : IsDrawnGraph (graph_of d whole)

-- some meaning has this kept of it
abbrev pub IsOfWhole : Declared → Meaning → Type 0
IsOfWhole d m = (whole : Meaning) × IsKeptOfWhole d m whole
