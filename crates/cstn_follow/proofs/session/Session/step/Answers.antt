use Rattle.std.proofs.Common.{◌≡◌, ◌+◌, ◌<◌, ◌≤◌, ◌^◌, inl, None, Some, arith, sym, subst, ap, ◌∙◌}
use Rattle.std.specs.Prelude.{Err}
use Rattle.cstn_net.specs.Limits.{most_edits}
use Rattle.cstn_lift.specs.Read.{the_labelled}
use Rattle.cstn_history.specs.Read.{the_history}
use Rattle.cstn_history.specs.Steps.{stepped}
use Rattle.cstn_follow.specs.Sessions.{SessionParts, IsFollowed}
use Rattle.cstn_follow.specs.Stepping.{verdict_stepped, IsStepRefusal}
use Rattle.cstn_follow.proofs.Edited.{left_many}
use Rattle.cstn_follow.proofs.Found.{found_right}
use Rattle.cstn_follow.proofs.SteppedSession.{stepped_verdict, refused_as}
use Rattle.cstn_follow.proofs.session.Session.step.Goals as goal

pub returns-in-Err-clause-refused : goal.returns-in-Err-clause-refused
returns-in-Err-clause-refused c =
    let w = c.self.inside in
    let room = sym c.in_default.ensures.room in
    subst (λ e. IsStepRefusal c.args.self.now e) (sym c.unstepped.ensures)
    (refused_as c.args.self.now c.in-Err.error room (λ is.
    subst (λ (s : SessionParts). verdict_stepped s ≡ None) c.self.view_is
    (left_many (stepped (the_labelled w.execution.network)) (the_history w.execution.history) w.execution.fresh w.cap.entries
    (inl (c.stepped.ensures.many (c.in-Err.is ∙ ap (λ e. Err e) is))))))

pub returns-in-Err-finding-clause-refused : goal.returns-in-Err-finding-clause-refused
returns-in-Err-finding-clause-refused c =
    let w = c.self.inside in
    let x = c.in-Ok.execution in
    let made = c.in-Ok.ensures in
    let room = sym c.in_default.ensures.room in
    subst (λ e. IsStepRefusal c.args.self.now e) (sym c.unstepped-in-Err-finding.ensures)
    (refused_as c.args.self.now c.in-Err-finding.error room (λ is.
    subst (λ (s : SessionParts). verdict_stepped s ≡ None) c.self.view_is
    (sym (stepped_verdict w.execution x w.cap.entries made.network made.history made.fresh)
    ∙ c.finding.ensures.many (c.in-Err-finding.is ∙ ap (λ e. Err e) is))))

pub returns-clause-verdict : goal.returns-clause-verdict
returns-clause-verdict c =
    let w = c.self.inside in
    let x = c.in-Ok.execution in
    let made = c.in-Ok.ensures in
    subst (λ (s : SessionParts). verdict_stepped s ≡ Some c.verdict-verdict.result) c.self.view_is
    (sym (stepped_verdict w.execution x w.cap.entries made.network made.history made.fresh) ∙ c.in-Ok-finding.ensures.verdict
    ∙ ap (λ v. Some v) (sym c.verdict-verdict.ensures))

pub returns-clause-right : goal.returns-clause-right
returns-clause-right c =
    let w = c.self.inside in
    let x = c.in-Ok.execution in
    let f = c.in-Ok-finding.finding in
    let room = subst (λ (s : SessionParts). s.edits < most_edits) (sym c.self.view_is) c.in_default.ensures.edits in
    let low = c.self.invariant.low in
    let fresh = c.in-Ok.ensures.fresh in
    let good : IsFollowed x w.cap.entries (w.edits + 1) f = record {
      execution = c.in-Ok.ensures.execution;
      few_edits = omega arith;
      low = omega arith;
      found = c.in-Ok-finding.ensures.finding;
      verdict = c.in-Ok-finding.ensures.verdict;
    } in
    found_right x w.cap.entries (w.edits + 1) f c.verdict-verdict.result good c.verdict-verdict.ensures
