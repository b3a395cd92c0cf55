use Rattle.std.proofs.Common.{◌≡◌, ap, sym, ◌∙◌, Ok, Err}
use Rattle.std.proofs.lemmas.Result.{err_from_is_err_and}
use Rattle.cstn_element.specs.Children.{tag_seen}
use Rattle.cstn_graphml.specs.Document.{part_of}
use Rattle.cstn_graphml.specs.Document.Part.{a_datum, a_node, another}
use Rattle.cstn_graphml.specs.DrawnGraphSeen.{graph_seen}
use Rattle.cstn_graphml.specs.PartSeen.{part_seen}
use Rattle.cstn_element.specs.Faults.{document_refusal}
use Rattle.cstn_graphml.specs.Document.{graph_child}
use Rattle.cstn_graphml.specs.Kept.{kept}
use Rattle.cstn_graphml.proofs.GraphRead.{part_passed}
use Rattle.cstn_graphml.proofs.KeptRead.{reads_kept, seen_kept, part_kept}
use Rattle.cstn_graphml.proofs.graph.read_graph_child.Goals as goal

pub returns-in_ok-pass_element-in-Another-clause-reads : goal.returns-in_ok-pass_element-in-Another-clause-reads
returns-in_ok-pass_element-in-Another-clause-reads c = λ names l.
    let is : another ≡ part_of c.args.start.now.name.now = sym (ap part_seen c.in-Another.is) ∙ c.part_of.ensures in
    reads_kept kept (λ (u : Unit {0}). graph_seen c.args.graph.now) (graph_child (part_of c.args.start.now.name.now) (graph_seen c.args.graph.now) (tag_seen c.args.start.now)) _ _ _ names _ _ (Ok tt) (λ u. seen_kept c.args.graph.now)
    (part_passed c.elements_passed_over_leave_the_state.ensures.passed _ (graph_seen c.args.graph.now) (tag_seen c.args.start.now) _ _ names _ _ (Ok tt) is (c.in_ok-pass_element-in-Another.ensures.reads names l))

pub returns-in_err-pass_element-in-Another-clause-reads : goal.returns-in_err-pass_element-in-Another-clause-reads
returns-in_err-pass_element-in-Another-clause-reads c = λ names l.
    let p = err_from_is_err_and c.from_residual.result c.from_residual.ensures.1 in
    let is : another ≡ part_of c.args.start.now.name.now = sym (ap part_seen c.in-Another.is) ∙ c.part_of.ensures in
    rw (p.1, p.2) (reads_kept kept (λ (u : Unit {0}). graph_seen c.args.graph.now) (graph_child (part_of c.args.start.now.name.now) (graph_seen c.args.graph.now) (tag_seen c.args.start.now)) _ _ _ names _ _ (Err (document_refusal c.in_err-pass_element-in-Another.field-0.0)) (λ u. seen_kept c.args.graph.now)
    (part_passed c.elements_passed_over_leave_the_state.ensures.passed _ (graph_seen c.args.graph.now) (tag_seen c.args.start.now) _ _ names _ _ (Err (document_refusal c.in_err-pass_element-in-Another.field-0.0)) is (c.in_err-pass_element-in-Another.ensures.reads names l)))

pub returns-in-Datum-clause-reads : goal.returns-in-Datum-clause-reads
returns-in-Datum-clause-reads c = λ names l.
    let is : a_datum ≡ part_of c.args.start.now.name.now = sym (ap part_seen c.in-Datum.is) ∙ c.part_of.ensures in
    part_kept a_datum _ (graph_seen c.args.graph.now) c.read_graph_datum.new.graph (tag_seen c.args.start.now) _ _ names _ _ _ is (c.read_graph_datum.ensures.reads names l)

pub returns-in-Node-clause-reads : goal.returns-in-Node-clause-reads
returns-in-Node-clause-reads c = λ names l.
    let is : a_node ≡ part_of c.args.start.now.name.now = sym (ap part_seen c.in-Node.is) ∙ c.part_of.ensures in
    part_kept a_node _ (graph_seen c.args.graph.now) c.read_node.new.graph (tag_seen c.args.start.now) _ _ names _ _ _ is (c.read_node.ensures.reads names l)
