use Rattle.std.proofs.Common.{List, [], ◌∷◌, map, Vec, Global, subst}
use Rattle.std.specs.Prelude.{codes}
use Rattle.cstn_element.specs.Contents.{Tag}
use Rattle.cstn_element.specs.Elements.{data_of}
use Rattle.cstn_graphml.specs.Judged.{judged_edge}
use Rattle.cstn_element.specs.Children.{tag_seen}
use Rattle.cstn_element.specs.DataElementSeen.{datum_seen}
use Rattle.cstn_graphml.specs.DrawnGraphSeen.{graph_seen}
use Rattle.cstn_element.specs.Reads.{Gives}
use Rattle.cstn_element.specs.declared.data_element.Datum.{Datum as Lent}
use Rattle.cstn_graphml.specs.Kept.{kept, kept_by}
use Rattle.cstn_graphml.proofs.GraphRead.{judged}
use Rattle.cstn_graphml.proofs.KeptRead.{reads_then_kept}
use Rattle.cstn_graphml.proofs.graph.read_edge.Goals as goal

pub returns-clause-reads : goal.returns-clause-reads
returns-clause-reads c = λ names l.
    let tag : Tag = tag_seen c.args.start.now in
    let graph = graph_seen c.args.graph.now in
    let used = codes "Type" ∷ (codes "LabeledValues" ∷ []) in
    reads_then_kept kept (λ (u : Unit {0}). graph_seen c.judge_edge.new.graph) (data_of used) (judged_edge tag graph) c.args.start.now.closed c.args.start.now.at c.args.start.now.name.now names _ _ c.judge_edge.result
    (judged (λ (v : Vec Lent Global). map datum_seen v.items) (data_of used) (λ (u : Unit {0}). graph_seen c.judge_edge.new.graph) (λ found. kept_by kept (judged_edge tag graph found))
    c.args.start.now.closed c.args.start.now.at c.args.start.now.name.now names _ _ c.in_ok-found.found c.judge_edge.result (c.in_ok-found.ensures.reads names l)
    (subst (λ (items : List Lent). Gives (λ (u : Unit {0}). graph_seen c.judge_edge.new.graph) c.judge_edge.result (kept_by kept (judged_edge tag graph (map datum_seen items)))) c.as_slice.ensures.value c.judge_edge.ensures))
