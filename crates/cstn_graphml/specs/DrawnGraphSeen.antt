-- What the definitions see in a drawn graph of the program.
use Rattle.std.specs.Prelude.{Option, option_map, map}
use Rattle.cstn_label.specs.Read.{marks}
use Rattle.cstn_graphml.specs.declared.drawn_graph.DrawnConstraint.{DrawnConstraint as LentDrawn}
use Rattle.cstn_graphml.specs.declared.drawn_graph.Observation.{Observation as LentObservation}
use Rattle.cstn_graphml.specs.declared.drawn_graph.DrawnGraph.{DrawnGraph as Lent}
use Rattle.cstn_element.specs.DataElementSeen.{datum_seen}
use Rattle.cstn_graphml.specs.DrawnGraph.{Observation, DrawnConstraint, DrawnGraph}

abbrev pub observed_seen : Option LentObservation → Option Observation
observed_seen observed = option_map (λ o. record { prop = o.prop.index; reaction = o.reaction }) observed

abbrev pub drawn_seen : LentDrawn → DrawnConstraint
drawn_seen c = record { from = c.from; to = c.to; most = c.most; label = marks c.label }

abbrev pub graph_seen : Lent → DrawnGraph
graph_seen d = record {
  own = map datum_seen d.own.items;
  deadline = d.deadline;
  origin = option_map observed_seen d.origin;
  origin_label = marks d.origin_label;
  names = d.names;
  observes = map observed_seen d.observes.items;
  labels = map marks d.labels.items;
  constraints = map drawn_seen d.constraints.list.items;
}
