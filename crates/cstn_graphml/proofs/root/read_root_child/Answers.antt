use Rattle.std.proofs.lemmas.Result.{err_from_is_err_and}
use Rattle.std.proofs.Common.{Ok, Err, ◌≡◌, true, false, ap, sym, subst}
use Rattle.std.specs.Prelude.{option_map, codes}
use Rattle.std.proofs.lemmas.Bool.{not-false, not-true}
use Rattle.cstn_markup.specs.Bytes.{is_same}
use Rattle.cstn_element.specs.Contents.{Tag}
use Rattle.cstn_element.specs.Children.{tag_seen}
use Rattle.cstn_graphml.specs.DrawnGraphSeen.{graph_seen}
use Rattle.cstn_graphml.specs.Document.{root_child}
use Rattle.cstn_element.specs.Faults.{document_refusal}
use Rattle.cstn_graphml.specs.Kept.{kept}
use Rattle.cstn_graphml.proofs.GraphRead.{root_passed}
use Rattle.cstn_graphml.proofs.KeptRead.{reads_kept, some_seen, root_read, root_refused}
use Rattle.cstn_graphml.proofs.root.read_root_child.Goals as goal

pub returns-then-ne-clause-reads : goal.returns-then-ne-clause-reads
returns-then-ne-clause-reads c = λ names l.
    let seen = option_map graph_seen c.args.seen.now in
    let other : is_same c.args.start.now.name.now (codes "graph") ≡ false = subst (λ k. is_same c.args.start.now.name.now k ≡ false) c.as_slice.ensures (not-true (is_same c.args.start.now.name.now c.as_slice.result.now) (sym c.if-ne.ensures)) in
    reads_kept (option_map kept) (λ (u : Unit {0}). seen) (root_child (is_same c.args.start.now.name.now (codes "graph")) seen (tag_seen c.args.start.now)) _ _ _ names _ _ (Ok tt) (λ u. some_seen c.args.seen.now)
    (root_passed c.elements_passed_over_leave_the_state.ensures.passed _ seen (tag_seen c.args.start.now) _ _ names _ _ (Ok tt) other (c.in_ok-pass_element.ensures.reads names l))

pub returns-in_err-pass_element-clause-reads : goal.returns-in_err-pass_element-clause-reads
returns-in_err-pass_element-clause-reads c = λ names l.
    let p = err_from_is_err_and c.from_residual.result c.from_residual.ensures.1 in
    let seen = option_map graph_seen c.args.seen.now in
    let other : is_same c.args.start.now.name.now (codes "graph") ≡ false = subst (λ k. is_same c.args.start.now.name.now k ≡ false) c.as_slice.ensures (not-true (is_same c.args.start.now.name.now c.as_slice.result.now) (sym c.if-ne.ensures)) in
    rw (p.1, p.2) (reads_kept (option_map kept) (λ (u : Unit {0}). seen) (root_child (is_same c.args.start.now.name.now (codes "graph")) seen (tag_seen c.args.start.now)) _ _ _ names _ _ (Err (document_refusal c.in_err-pass_element.field-0.0)) (λ u. some_seen c.args.seen.now)
    (root_passed c.elements_passed_over_leave_the_state.ensures.passed _ seen (tag_seen c.args.start.now) _ _ names _ _ (Err (document_refusal c.in_err-pass_element.field-0.0)) other (c.in_err-pass_element.ensures.reads names l)))

pub returns-clause-reads : goal.returns-clause-reads
returns-clause-reads c = λ names l.
    let tag : Tag = tag_seen c.args.start.now in
    let graph : is_same c.args.start.now.name.now (codes "graph") ≡ true = subst (λ k. is_same c.args.start.now.name.now k ≡ true) c.as_slice.ensures (not-false (is_same c.args.start.now.name.now c.as_slice.result.now) (sym c.if-ne.ensures)) in
    root_read (is_same c.args.start.now.name.now (codes "graph")) (option_map graph_seen c.args.seen.now) tag c.args.start.now.closed c.args.start.now.name.now names _ _ graph (ap (option_map graph_seen) c.in-None.is) c.in_ok-graph.graph (c.in_ok-graph.ensures.reads names l)

pub returns-in_err-graph-clause-reads : goal.returns-in_err-graph-clause-reads
returns-in_err-graph-clause-reads c = λ names l.
    let p = err_from_is_err_and c.from_residual-in_err-graph.result c.from_residual-in_err-graph.ensures.1 in
    let tag : Tag = tag_seen c.args.start.now in
    let graph : is_same c.args.start.now.name.now (codes "graph") ≡ true = subst (λ k. is_same c.args.start.now.name.now k ≡ true) c.as_slice.ensures (not-false (is_same c.args.start.now.name.now c.as_slice.result.now) (sym c.if-ne.ensures)) in
    rw (p.1, p.2) (root_refused (is_same c.args.start.now.name.now (codes "graph")) (option_map graph_seen c.args.seen.now) tag _ _ names _ _ graph (ap (option_map graph_seen) c.in-None.is) _ _ (c.in_err-graph.ensures.reads names l))
