use Rattle.std.proofs.Common.{sym, subst, ap, ◌∙◌}
use Rattle.std.specs.Prelude.{Ok, Err}
use Rattle.cstn_history.specs.Read.{the_history}
use Rattle.cstn_follow.specs.declared.errors.FollowError.{FollowError}
use Rattle.cstn_follow.specs.Executions.{ExecutionParts}
use Rattle.cstn_follow.specs.Sessions.{SessionParts, Records, session_parts, unrecorded}
use Rattle.cstn_follow.proofs.Found.{is_followed, found_right}
use Rattle.cstn_follow.proofs.Told.{not_recorded, recorded}
use Rattle.cstn_follow.proofs.session.Session.record.Goals as goal

pub returns-in-Err-clause-recorded : goal.returns-in-Err-clause-recorded
returns-in-Err-clause-recorded c =
    let w = c.self.inside in
    let h = the_history c.args.later in
    subst (λ (e : FollowError). Records (Ok h) c.args.self.now c.args.self.now (Err e)) (sym c.unrecorded.ensures)
    (subst (λ (s : SessionParts). Records (Ok h) s s (Err (unrecorded c.in-Err.error))) c.self.view_is
    (not_recorded h (session_parts w.execution w.cap.entries w.edits w.finding) c.in-Err.error
    (λ is. c.finding_after.ensures.many (c.in-Err.is ∙ ap (λ d. Err d) is))))

pub invariant_of-self : goal.invariant_of-self
invariant_of-self c =
    let w = c.self.inside in
    let later : ExecutionParts = record w.execution { history = c.args.later } in
    is_followed later c.record.new.self w.cap.entries w.edits c.in-Ok.finding c.record.ensures.recorded c.record.ensures.execution
    c.self.invariant.few_edits c.self.invariant.low c.in-Ok.ensures.finding c.in-Ok.ensures.verdict

pub returns-clause-recorded : goal.returns-clause-recorded
returns-clause-recorded c =
    let w = c.self.inside in
    let f = c.in-Ok.finding in
    let v = c.verdict-verdict.result in
    let new : SessionParts = session_parts c.record.new.self w.cap.entries w.edits f in
    subst (λ (s : SessionParts). Records (Ok (the_history c.args.later)) s new (Ok v)) c.self.view_is
    (recorded w.execution c.args.later c.record.new.self w.cap.entries w.edits w.finding f v c.record.ensures.recorded c.verdict-verdict.ensures
    c.in-Ok.ensures.verdict)

pub returns-clause-right : goal.returns-clause-right
returns-clause-right c =
    let w = c.self.inside in
    let later : ExecutionParts = record w.execution { history = c.args.later } in
    let good = is_followed later c.record.new.self w.cap.entries w.edits c.in-Ok.finding c.record.ensures.recorded c.record.ensures.execution
    c.self.invariant.few_edits c.self.invariant.low c.in-Ok.ensures.finding c.in-Ok.ensures.verdict in
    found_right c.record.new.self w.cap.entries w.edits c.in-Ok.finding c.verdict-verdict.result good c.verdict-verdict.ensures
