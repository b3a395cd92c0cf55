-- The graph that the program keeps of a plan.
use Rattle.std.proofs.Common.{◌≡◌, List, [], take, map, refl, ap, ◌∙◌, None}
use Rattle.std.specs.Prelude.{option_map}
use Rattle.std.proofs.lemmas.List.{take-map}
use Rattle.cstn_label.specs.Read.{marks}
use Rattle.cstn_element.specs.declared.data_element.Datum.{Datum}
use Rattle.cstn_element.specs.DataElementSeen.{datum_seen}
use Rattle.cstn_graphml.specs.declared.drawn_graph.DrawnConstraint.{DrawnConstraint as LentDrawn}
use Rattle.cstn_graphml.specs.declared.drawn_graph.DrawnGraph.{DrawnGraph as LentGraph}
use Rattle.cstn_graphml.specs.DrawnGraph.{DrawnGraph}
use Rattle.cstn_graphml.specs.DrawnGraphSeen.{graph_seen, observed_seen, drawn_seen}
use Rattle.cstn_graphml.specs.Kept.{kept}
use Rattle.cstn_sentences.specs.declared.declarations.Declared.{Declared as LentDeclared}
use Rattle.cstn_sentences.specs.declared.meaning.Meaning.{Meaning as LentMeaning}
use Rattle.cstn_sentences.specs.Declarations.{Declared}
use Rattle.cstn_sentences.specs.Meaning.{Meaning}
use Rattle.cstn_sentences.specs.Drawn.{graph_of, kept_meaning}
use Rattle.cstn_sentences.specs.SeenDeclared.{the_declared}
use Rattle.cstn_sentences.specs.SeenMeaning.{the_meaning}

pub kept_plan : (d : LentDeclared) (m : LentMeaning) (own : List Datum) (list : List LentDrawn) → own ≡ [] → list ≡ take 16385 m.constraints.items
    → ◌≡◌ {A = DrawnGraph} (record {
      own = map datum_seen own;
      deadline = None;
      origin = option_map observed_seen d.origin;
      origin_label = marks m.origin_label;
      names = d.names;
      observes = map observed_seen d.observes.items;
      labels = map marks m.labels.items;
      constraints = map drawn_seen list;
    }) (kept (graph_of (the_declared d) (the_meaning m)))
kept_plan d m own list none is = rw (none, is, take-map drawn_seen 16385 m.constraints.items) refl

-- the graph that is kept of what is kept of a meaning is that of the whole
pub whole_seen : (d : Declared) (m whole : Meaning) (g : LentGraph) → graph_seen g ≡ kept (graph_of d m) → kept_meaning m ≡ kept_meaning whole → graph_seen g ≡ kept (graph_of d whole)
whole_seen d m whole g seen is = seen ∙ ap (graph_of d) is
