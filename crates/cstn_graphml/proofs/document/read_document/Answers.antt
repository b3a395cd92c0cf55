use Rattle.std.proofs.Common.{None, sym, ap, ◌∙◌, subst}
use Rattle.std.specs.Prelude.{option_map}
use Rattle.std.proofs.lemmas.Result.{err_from_is_err_and}
use Rattle.cstn_element.specs.InTurn.{IsStray}
use Rattle.cstn_element.specs.Results.{or_refused}
use Rattle.cstn_element.specs.Results.Refusal.{shape}
use Rattle.cstn_graphml.specs.DrawnGraphSeen.{graph_seen}
use Rattle.cstn_graphml.proofs.document.read_document.Goals as goal

pub loop-name-preserved-in-Continue-1 : goal.loop-name-preserved-in-Continue-1
loop-name-preserved-in-Continue-1 c = record {
  same = c.documents_are_read_in_turn.ensures.child None (option_map graph_seen c.loop-name.seen) _ _ _ _ _ _ _ _ _ c.loop-name.invariant.same c.step-at.ensures.steps c.in-Start.is c.in_ok-read_document_child-in-Start.ensures.reads;
}

pub returns-in_err-read_document_child-in-Start : goal.returns-in_err-read_document_child-in-Start
returns-in_err-read_document_child-in-Start c =
    let p = err_from_is_err_and c.from_residual.result c.from_residual.ensures.1 in
    rw (p.1, p.2) (c.documents_are_read_in_turn.ensures.refused None (option_map graph_seen c.loop-name.seen) _ _ _ _ _ _ _ _ _ _ c.loop-name.invariant.same c.step-at.ensures.steps c.in-Start.is c.in_err-read_document_child-in-Start.ensures.reads)

pub returns-in-End : goal.returns-in-End
returns-in-End c = c.documents_are_read_in_turn.ensures.stray None (option_map graph_seen c.loop-name.seen) _ _ _ _ c.loop-name.invariant.same c.step-at.ensures.steps (subst IsStray (sym c.in-End.is) tt)

pub returns-then-not-is_blank : goal.returns-then-not-is_blank
returns-then-not-is_blank c =
    c.documents_are_read_in_turn.ensures.stray None (option_map graph_seen c.loop-name.seen) _ _ _ _ c.loop-name.invariant.same c.step-at.ensures.steps (subst IsStray (sym c.in-Text.is) (sym c.is_blank.ensures ∙ c.if-not-is_blank.true))

pub loop-name-preserved : goal.loop-name-preserved
loop-name-preserved c = record {
  same = c.documents_are_read_in_turn.ensures.blank None (option_map graph_seen c.loop-name.seen) _ _ _ _ _ c.loop-name.invariant.same c.step-at.ensures.steps c.in-Text.is (sym c.is_blank.ensures ∙ c.if-not-is_blank.false);
}

pub returns-in-Wrong : goal.returns-in-Wrong
returns-in-Wrong c = c.documents_are_read_in_turn.ensures.stray None (option_map graph_seen c.loop-name.seen) _ _ _ _ c.loop-name.invariant.same c.step-at.ensures.steps (subst IsStray (sym c.in-Wrong.is) tt)

pub returns-in-Some : goal.returns-in-Some
returns-in-Some c =
    c.documents_are_read_in_turn.ensures.end None (option_map graph_seen c.loop-name.seen) _ _ _ _ c.loop-name.invariant.same c.step-at.ensures.steps c.in-Finish.is
    ∙ ap (λ o. or_refused (option_map graph_seen o) (shape c.step-at.result.at)) c.in-Some.is

pub returns-in-None : goal.returns-in-None
returns-in-None c =
    c.documents_are_read_in_turn.ensures.end None (option_map graph_seen c.loop-name.seen) _ _ _ _ c.loop-name.invariant.same c.step-at.ensures.steps c.in-Finish.is
    ∙ ap (λ o. or_refused (option_map graph_seen o) (shape c.step-at.result.at)) c.in-None.is
