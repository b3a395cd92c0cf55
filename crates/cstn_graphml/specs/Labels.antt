-- The labels of a graph of the program.
use Rattle.std.specs.Prelude.{List, ◌∷◌, map}
use Rattle.cstn_label.specs.Labels.{Label}
use Rattle.cstn_label.specs.Read.{marks}
use Rattle.cstn_net.specs.Read.{NetworkParts, the_network}
use Rattle.cstn_lift.specs.Labelled.{Labelled}
use Rattle.cstn_graphml.specs.declared.drawn_graph.DrawnGraph.{DrawnGraph as Lent}

-- the labels of the time-points, the origin's first
abbrev pub labels_seen : Lent → List Label
labels_seen d = marks d.origin_label ∷ map marks d.labels.items

-- a network with the labels of a graph
abbrev pub with_labels_of : NetworkParts → Lent → Labelled
with_labels_of network d = record { base = the_network network; labels = labels_seen d }
