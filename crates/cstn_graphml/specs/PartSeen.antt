-- What the definitions see in a `Part` of the program.
use Rattle.cstn_graphml.specs.declared.graph.Part.{Part as Lent}
use Rattle.cstn_graphml.specs.declared.graph.Part.TheVariants.{Datum, Node, Edge, Another}
use Rattle.cstn_graphml.specs.Document.{Part}
use Rattle.cstn_graphml.specs.Document.Part.{a_datum, a_node, an_edge, another}

abbrev pub part_seen : Lent → Part
part_seen Datum = a_datum
part_seen Node = a_node
part_seen Edge = an_edge
part_seen Another = another
