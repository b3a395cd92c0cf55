use Rattle.std.proofs.Common.{subst, sym, ap, ◌∙◌}
use Rattle.cstn_follow.specs.Sessions.{SessionParts, IsSession}
use Rattle.cstn_follow.proofs.Found.{followed_session, right_verdict}
use Rattle.cstn_follow.proofs.session.Session.verdict.Goals as goal

pub returns : goal.returns
returns c =
    let w = c.self.inside in
    let session = subst (λ (s : SessionParts). IsSession s) c.self.view_is (followed_session w.execution w.cap.entries w.edits w.finding c.self.invariant) in
    let is = c.verdict.ensures ∙ ap (λ (s : SessionParts). s.verdict) c.self.view_is in
    record { verdict = is; right = right_verdict c.args.self.now c.verdict.result session (sym is); session = session }
