use Rattle.std.proofs.Common.{ap, sym, Err}
use Rattle.cstn_graphml.specs.DrawnGraphSeen.{graph_seen}
use Rattle.cstn_graphml.proofs.FreshNames.{fresh}
use Rattle.cstn_graphml.proofs.drawn_graph.put_node.Goals as goal

pub unreachable-requires-in-Err-Twice : goal.unreachable-requires-in-Err-Twice
unreachable-requires-in-Err-Twice c =
    fresh c.args.name.now (graph_seen c.args.graph.now) c.requires.fresh (sym c.if-eq.ensures) (c.in-Err-Twice.ensures.twice.0 (ap (λ e. Err e) c.in-Err-Twice.field-0-is))
