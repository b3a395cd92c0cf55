use Rattle.std.proofs.Common.{◌≡◌, [], true, refl, ap, sym, subst}
use Rattle.std.specs.Prelude.{option_map, codes}
use Rattle.std.proofs.lemmas.Bool.{not-false}
use Rattle.std.proofs.lemmas.Result.{err_from_is_err_and}
use Rattle.cstn_markup.specs.Bytes.{is_same}
use Rattle.cstn_element.specs.Children.{tag_seen}
use Rattle.cstn_graphml.specs.DrawnGraphSeen.{graph_seen}
use Rattle.cstn_graphml.proofs.KeptRead.{document_read, document_refused}
use Rattle.cstn_graphml.proofs.document.read_document_child.Goals as goal

pub returns-in_err-graph-clause-reads : goal.returns-in_err-graph-clause-reads
returns-in_err-graph-clause-reads c =
    let p = err_from_is_err_and c.from_residual.result c.from_residual.ensures.1 in
    let root : is_same c.args.start.now.name.now (codes "graphml") ≡ true = subst (λ k. is_same c.args.start.now.name.now k ≡ true) c.as_slice.ensures (not-false (is_same c.args.start.now.name.now c.as_slice.result.now) (sym c.if-ne.ensures)) in
    rw (p.1, p.2) (document_refused (option_map graph_seen c.args.seen.now) (tag_seen c.args.start.now) _ _ _ _ _ root (ap (option_map graph_seen) c.in-None.is) _ _ (c.in_err-graph.ensures.reads [] refl))

pub returns-clause-reads : goal.returns-clause-reads
returns-clause-reads c =
    let root : is_same c.args.start.now.name.now (codes "graphml") ≡ true = subst (λ k. is_same c.args.start.now.name.now k ≡ true) c.as_slice.ensures (not-false (is_same c.args.start.now.name.now c.as_slice.result.now) (sym c.if-ne.ensures)) in
    document_read (option_map graph_seen c.args.seen.now) (tag_seen c.args.start.now) _ _ _ _ _ root (ap (option_map graph_seen) c.in-None.is) c.in_ok-graph.graph (c.in_ok-graph.ensures.reads [] refl)
