use Rattle.std.proofs.Common.{◌∷◌, None, length, arith, ap, subst}
use Rattle.std.specs.Prelude.{option_map}
use Rattle.std.proofs.lemmas.Result.{err_from_is_err_and}
use Rattle.cstn_element.specs.Children.{TakesTokens}
use Rattle.cstn_element.specs.Results.{or_refused}
use Rattle.cstn_element.specs.Results.Refusal.{shape}
use Rattle.cstn_element.specs.declared.children.Next.{Next}
use Rattle.cstn_graphml.specs.DrawnGraphSeen.{graph_seen}
use Rattle.cstn_graphml.proofs.root.read_root.Goals as goal

pub loop-start-preserved : goal.loop-start-preserved
loop-start-preserved c = record {
  same = λ others l.
      let stands = c.next_child.ensures.next others (omega (arith, l)) in
      let child = c.in_ok-read_root_child-in-Child.ensures.reads (c.args.name.now ∷ others) (omega (arith, l)) in
      c.elements_are_read_in_turn.ensures.child None (option_map graph_seen c.loop-start.seen) _ _ others _ _ _ _ _ _ (c.loop-start.invariant.same others l) stands c.in-Child.is child;
  less = omega (arith, c.in_ok-read_root_child-in-Child.ensures.less, subst (λ (next : Next). TakesTokens next (length c.loop-start.scanner) (length c.next_child.new.scanner)) c.in-Child.is c.next_child.ensures.takes, c.loop-start.invariant.less);
}

pub returns-in_err-read_root_child-in-Child-clause-reads : goal.returns-in_err-read_root_child-in-Child-clause-reads
returns-in_err-read_root_child-in-Child-clause-reads c = λ others l.
    let p = err_from_is_err_and c.from_residual.result c.from_residual.ensures.1 in
    let stands = c.next_child.ensures.next others (omega (arith, l)) in
    let child = c.in_err-read_root_child-in-Child.ensures.reads (c.args.name.now ∷ others) (omega (arith, l)) in
    rw (p.1, p.2) (c.elements_are_read_in_turn.ensures.refused None (option_map graph_seen c.loop-start.seen) _ _ others _ _ _ _ _ _ _ (c.loop-start.invariant.same others l) stands c.in-Child.is child)

pub returns-in-Some-clause-reads : goal.returns-in-Some-clause-reads
returns-in-Some-clause-reads c = λ others l.
    let stands = c.next_child.ensures.next others (omega (arith, l)) in
    c.elements_are_read_in_turn.ensures.end None (option_map graph_seen c.loop-start.seen) _ others _ _ _ _ _ _ (c.loop-start.invariant.same others l) stands c.in-End.is (ap (λ o. or_refused (option_map graph_seen o) (shape c.in-End.at)) c.in-Some.is)

pub returns-in-None-clause-reads : goal.returns-in-None-clause-reads
returns-in-None-clause-reads c = λ others l.
    let stands = c.next_child.ensures.next others (omega (arith, l)) in
    c.elements_are_read_in_turn.ensures.end None (option_map graph_seen c.loop-start.seen) _ others _ _ _ _ _ _ (c.loop-start.invariant.same others l) stands c.in-End.is (ap (λ o. or_refused (option_map graph_seen o) (shape c.in-End.at)) c.in-None.is)

pub returns-in-Wrong-clause-reads : goal.returns-in-Wrong-clause-reads
returns-in-Wrong-clause-reads c = λ others l.
    let stands = c.next_child.ensures.next others (omega (arith, l)) in
    c.elements_are_read_in_turn.ensures.wrong None (option_map graph_seen c.loop-start.seen) _ others _ _ _ _ _ (c.loop-start.invariant.same others l) stands c.in-Wrong.is
