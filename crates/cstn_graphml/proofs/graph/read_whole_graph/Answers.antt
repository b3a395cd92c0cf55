use Rattle.std.proofs.Common.{ap, sym, Ok}
use Rattle.cstn_element.specs.Elements.{read_by}
use Rattle.cstn_graphml.specs.Kept.{in_kept_graph}
use Rattle.cstn_graphml.specs.DrawnGraphSeen.{graph_seen}
use Rattle.cstn_graphml.proofs.GraphRead.{closed_read}
use Rattle.cstn_graphml.proofs.graph.read_whole_graph.Goals as goal

pub returns-then-start-clause-reads : goal.returns-then-start-clause-reads
unfolding read_by
returns-then-start-clause-reads c = λ names l. closed_read graph_seen in_kept_graph c.in_ok-empty_graph.field-0 _ _ _ names _ c.if-start.true (ap (λ d. Ok d) (sym c.in_ok-empty_graph.ensures))
