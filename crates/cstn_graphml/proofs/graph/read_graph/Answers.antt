use Rattle.std.proofs.Common.{◌∷◌, length, arith, refl, ap, sym, subst}
use Rattle.std.proofs.lemmas.Result.{err_from_is_err_and}
use Rattle.cstn_element.specs.Children.{TakesTokens}
use Rattle.cstn_element.specs.Contents.{contents, inner}
use Rattle.cstn_element.specs.Elements.{read_by}
use Rattle.cstn_element.specs.declared.children.Next.{Next}
use Rattle.cstn_graphml.specs.DrawnGraph.{empty_graph}
use Rattle.cstn_graphml.specs.Kept.{kept_graph_reading}
use Rattle.cstn_graphml.specs.DrawnGraphSeen.{graph_seen}
use Rattle.cstn_graphml.proofs.graph.read_graph.Goals as goal

pub loop-start-init : goal.loop-start-init
loop-start-init c = record {
  same = λ others l. record { told = ap (λ d. read_by kept_graph_reading d (inner (contents (c.args.name.now ∷ others) c.args.scanner.now))) (sym c.in_ok-graph.ensures); left = refl };
  less = omega arith;
}

pub loop-start-preserved : goal.loop-start-preserved
loop-start-preserved c = record {
  same = λ others l.
      let stands = c.next_child.ensures.next others (omega (arith, l)) in
      let child = c.in_ok-read_graph_child-in-Child.ensures.reads (c.args.name.now ∷ others) (omega (arith, l)) in
      c.elements_are_read_in_turn.ensures.child empty_graph (graph_seen c.loop-start.graph) _ _ others _ _ _ _ _ _ (c.loop-start.invariant.same others l) stands c.in-Child.is child;
  less = omega (arith, c.in_ok-read_graph_child-in-Child.ensures.less, subst (λ (next : Next). TakesTokens next (length c.loop-start.scanner) (length c.next_child.new.scanner)) c.in-Child.is c.next_child.ensures.takes, c.loop-start.invariant.less);
}

pub returns-in_err-read_graph_child-in-Child-clause-reads : goal.returns-in_err-read_graph_child-in-Child-clause-reads
returns-in_err-read_graph_child-in-Child-clause-reads c = λ others l.
    let p = err_from_is_err_and c.from_residual-in_err-read_graph_child-in-Child.result c.from_residual-in_err-read_graph_child-in-Child.ensures.1 in
    let stands = c.next_child.ensures.next others (omega (arith, l)) in
    let child = c.in_err-read_graph_child-in-Child.ensures.reads (c.args.name.now ∷ others) (omega (arith, l)) in
    rw (p.1, p.2) (c.elements_are_read_in_turn.ensures.refused empty_graph (graph_seen c.loop-start.graph) _ _ others _ _ _ _ _ _ _ (c.loop-start.invariant.same others l) stands c.in-Child.is child)

pub returns-in-End-clause-reads : goal.returns-in-End-clause-reads
returns-in-End-clause-reads c = λ others l.
    let stands = c.next_child.ensures.next others (omega (arith, l)) in
    c.elements_are_read_in_turn.ensures.end empty_graph (graph_seen c.loop-start.graph) _ others _ _ _ _ _ _ (c.loop-start.invariant.same others l) stands c.in-End.is refl

pub returns-in-Wrong-clause-reads : goal.returns-in-Wrong-clause-reads
returns-in-Wrong-clause-reads c = λ others l.
    let stands = c.next_child.ensures.next others (omega (arith, l)) in
    c.elements_are_read_in_turn.ensures.wrong empty_graph (graph_seen c.loop-start.graph) _ others _ _ _ _ _ (c.loop-start.invariant.same others l) stands c.in-Wrong.is
