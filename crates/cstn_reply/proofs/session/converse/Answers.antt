use Rattle.std.proofs.Common.{arith, rules, [], ◌++◌, inl, ap, sym, ◌∙◌}
use Rattle.std.proofs.lemmas.List.{append-nil}
use Rattle.std.proofs.lemmas.Bool.{both_ways}
use Rattle.cstn_reply.specs.Written.{LiveState, view}
use Rattle.cstn_reply.specs.Sessions.{session_says}
use Rattle.cstn_reply.specs.Reached.{session_heard, session_stops}
use Rattle.cstn_io.specs.Contents.{with_bytes}
use Rattle.cstn_lines.specs.Steps.{LinesState}
use Rattle.cstn_reply.proofs.Talking.{starts}
use Rattle.cstn_reply.proofs.SessionEnds.{was_memory, no_memory, cut_opening, cut_short, finishes, regroup, regroup_cut, shown}
use Rattle.cstn_reply.proofs.session.converse.Goals as goal

pub returns-in_default-clause-ends : goal.returns-in_default-clause-ends
returns-in_default-clause-ends g c =
    no_memory (session_says g.T.Talk.ends g.T.Talk.turn g.T.Talk.ending c.args.opening.now (g.T.Talk.state c.args.talk)) (session_heard g.T.Talk.turn c.args.opening.now (g.T.Talk.state c.args.talk))
    (session_stops g.T.Talk.ends g.T.Talk.turn g.T.Talk.may_stop c.args.opening.now (g.T.Talk.state c.args.talk))
    (view g.S.Source.left g.S.Source.faults g.S.Source.reads c.args.live.now) _ _ _ c.finish.ensures.written

pub returns-in_default-new-clause-ends : goal.returns-in_default-new-clause-ends
returns-in_default-new-clause-ends g c =
    no_memory (session_says g.T.Talk.ends g.T.Talk.turn g.T.Talk.ending c.args.opening.now (g.T.Talk.state c.args.talk)) (session_heard g.T.Talk.turn c.args.opening.now (g.T.Talk.state c.args.talk))
    (session_stops g.T.Talk.ends g.T.Talk.turn g.T.Talk.may_stop c.args.opening.now (g.T.Talk.state c.args.talk))
    (view g.S.Source.left g.S.Source.faults g.S.Source.reads c.args.live.now) _ _ _ c.finish-in_default-new.ensures.written

pub returns-in_default-send-clause-ends : goal.returns-in_default-send-clause-ends
returns-in_default-send-clause-ends g c =
    let failed = c.in_default-send.ensures.prefix in
    cut_opening g.T.Talk.ends g.T.Talk.turn g.T.Talk.ending g.T.Talk.may_stop c.args.opening.now (g.T.Talk.state c.args.talk)
    (view g.S.Source.left g.S.Source.faults g.S.Source.reads c.args.live.now) _ _ failed.0 failed.1

pub session-preserved : goal.session-preserved
session-preserved g c =
    let was = c.session.invariant.progress in
    let now = c.in-None.ensures.goes_on (g.T.Talk.state c.args.talk) (view g.S.Source.left g.S.Source.faults g.S.Source.reads c.args.live.now) was.0 was.1 was.2 in
    let wrote = c.in-Ok-send-2.ensures.whole in
    record {
      progress = (was.0 ++ now.0, was.1 ++ c.next.new.text, now.1, regroup _ _ _ c.args.opening.now was.1 _ _ was.3 wrote c.as_bytes.ensures);
      at_end = c.in-None.ensures.at_end;
      count = omega (arith, c.in-None.ensures.count.1);
      live = omega (arith, c.in-None.ensures.later, c.session.invariant.live);
      out = omega (arith, c.in-Ok-send-2.ensures.later, c.session.invariant.out);
    }

pub returns-in_default-send-2-clause-ends : goal.returns-in_default-send-2-clause-ends
returns-in_default-send-2-clause-ends g c =
    let was = c.session.invariant.progress in
    let now = c.in-None.ensures.goes_on (g.T.Talk.state c.args.talk) (view g.S.Source.left g.S.Source.faults g.S.Source.reads c.args.live.now) was.0 was.1 was.2 in
    let failed = c.in_default-send-2.ensures.prefix in
    cut_short g.T.Talk.ends g.T.Talk.turn g.T.Talk.ending g.T.Talk.may_stop c.args.opening.now (g.T.Talk.state c.args.talk) _ _ _ _ (was.0 ++ now.0) (was.1 ++ c.next.new.text) _ _ _ now.1 c.in-None.ensures.at_end
    (regroup_cut _ _ _ c.args.opening.now was.1 _ _ failed.0 was.3 failed.1 c.as_bytes.ensures)

pub returns-in-Some-clause-ends : goal.returns-in-Some-clause-ends
returns-in-Some-clause-ends g c =
    let was = c.session.invariant.progress in
    let after : LiveState = view g.S.Source.left g.S.Source.faults g.S.Source.reads c.next.new.live in
    finishes _ _ _ _ after _ _ _ (c.args.opening.now ++ was.1) _ _ _
    (c.in-Some.ensures.ends (g.T.Talk.state c.args.talk) _ was.0 was.1 c.args.opening.now was.2 c.session.invariant.live)
    was.3 (shown _ _ _ _ _ _ c.finish-in-Some.ensures.written c.as_bytes-in-Some.ensures)

pub returns-in-Some-clause-memory : goal.returns-in-Some-clause-memory
returns-in-Some-clause-memory g c is =
    let was = c.session.invariant.progress in
    inl (
      c.args.opening.now ++ was.1,
      c.in-Some.ensures.memory (was_memory _ _ c.finish-in-Some.ensures.status is) (g.T.Talk.state c.args.talk) (view g.S.Source.left g.S.Source.faults g.S.Source.reads c.args.live.now) was.0 was.1
          c.args.opening.now was.2,
    )

pub session-init : goal.session-init
session-init g c =
    let lines_are = c.in-Ok.ensures in
    record {
      progress = (
        [],
        [],
        starts g.T.Talk.ends g.T.Talk.turn (g.T.Talk.state c.args.talk) (view g.S.Source.left g.S.Source.faults g.S.Source.reads c.args.live.now) _ (ap (λ (s : LinesState). s.kept) lines_are) (ap (λ (s : LinesState). s.count) lines_are),
        c.in-Ok-send.ensures.whole ∙ ap (with_bytes _) (sym (append-nil c.args.opening.now)),
      );
      at_end = λ e. absurd (both_ways _ (ap (λ (s : LinesState). s.ended) lines_are) e);
      count = search rules;
      live = search rules;
      out = search rules;
    }
