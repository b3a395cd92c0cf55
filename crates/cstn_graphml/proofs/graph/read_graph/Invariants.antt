use Rattle.std.proofs.Common.{◌≡◌, ℕ, List, ◌∷◌, ◌≤◌, length}
use Rattle.cstn_element.specs.Elements.{read_by}
use Rattle.cstn_graphml.specs.Kept.{kept_graph_reading}
use Rattle.cstn_graphml.specs.DrawnGraph.{empty_graph}
use Rattle.cstn_graphml.specs.DrawnGraphSeen.{graph_seen}
use Rattle.cstn_element.specs.Reads.{ReadsFurther}
use Rattle.cstn_graphml.proofs.graph.read_graph.Given as goal

abbrev pub invariant-loop-start : goal.invariant-loop-start
invariant-loop-start l = record {
  same : (others : List (List ℕ)) → length others ≡ 1 → ReadsFurther (read_by kept_graph_reading empty_graph) (read_by kept_graph_reading (graph_seen l.graph)) (l.name ∷ others) l.fn.scanner l.scanner;
  less : length l.scanner ≤ length l.fn.scanner;
}

abbrev pub decreases-loop-start : goal.decreases-loop-start
decreases-loop-start l = length l.scanner
