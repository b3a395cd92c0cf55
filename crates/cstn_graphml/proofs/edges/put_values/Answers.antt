use Rattle.std.proofs.Common.{◌≡◌, ap, ◌∙◌, Ok}
use Rattle.cstn_element.specs.DataElementSeen.{lent_datum}
use Rattle.cstn_graphml.specs.DrawnGraphSeen.{graph_seen}
use Rattle.cstn_graphml.specs.Judged.{with_values}
use Rattle.cstn_graphml.specs.Kept.{kept, kept_by}
use Rattle.cstn_graphml.proofs.KeptRead.{seen_kept}
use Rattle.cstn_graphml.proofs.edges.put_values.Goals as goal

pub returns-in_default : goal.returns-in_default
returns-in_default c =
    let graph = graph_seen c.args.graph.now in
    let whole : with_values c.args.from c.args.to (lent_datum c.args.datum) graph ≡ Ok graph = search in
    ap (λ told. kept_by kept told) whole ∙ ap (λ g. Ok g) (seen_kept c.args.graph.now)
