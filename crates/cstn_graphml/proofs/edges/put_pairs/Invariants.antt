use Rattle.std.proofs.Common.{◌≡◌, length}
use Rattle.cstn_element.specs.PairsLeft.{pairs_left}
use Rattle.cstn_graphml.specs.DrawnGraphSeen.{graph_seen}
use Rattle.cstn_graphml.specs.Judged.{with_pairs}
use Rattle.cstn_graphml.specs.Kept.{kept, kept_by}
use Rattle.cstn_graphml.proofs.edges.put_pairs.Given as goal

abbrev pub invariant-loop-pair : goal.invariant-loop-pair
invariant-loop-pair l =
    kept_by kept (with_pairs l.at l.from l.to (pairs_left l.fn.pairs) (graph_seen l.fn.graph)) ≡ kept_by kept (with_pairs l.at l.from l.to (pairs_left l.pairs) (graph_seen l.graph))

abbrev pub decreases-loop-pair : goal.decreases-loop-pair
decreases-loop-pair l = length (pairs_left l.pairs)
