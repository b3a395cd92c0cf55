use Rattle.std.proofs.Common.{rules, ◌≡◌, map, ap, ◌∙◌, Ok}
use Rattle.cstn_element.specs.Children.{tag_seen}
use Rattle.cstn_element.specs.DataElementSeen.{datum_seen}
use Rattle.cstn_graphml.specs.DrawnGraphSeen.{graph_seen}
use Rattle.cstn_graphml.specs.Judged.{judged_edge}
use Rattle.cstn_graphml.specs.Kept.{kept, kept_by}
use Rattle.cstn_graphml.proofs.KeptRead.{seen_kept}
use Rattle.cstn_graphml.proofs.edges.judge_edge.Goals as goal

pub returns-then-not-branch : goal.returns-then-not-branch
returns-then-not-branch c =
    let graph = graph_seen c.args.graph.now in
    let whole : judged_edge (tag_seen c.args.start.now) graph (map datum_seen c.args.found.now) ≡ Ok graph = search rules in
    ap (λ told. kept_by kept told) whole ∙ ap (λ g. Ok g) (seen_kept c.args.graph.now)
