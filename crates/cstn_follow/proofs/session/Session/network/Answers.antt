use Rattle.std.proofs.Common.{subst}
use Rattle.cstn_follow.specs.Sessions.{SessionParts, IsSession}
use Rattle.cstn_follow.proofs.Found.{followed_session}
use Rattle.cstn_follow.proofs.session.Session.network.Goals as goal

pub returns-clause-session : goal.returns-clause-session
returns-clause-session c =
    let w = c.self.inside in
    subst (λ (s : SessionParts). IsSession s) c.self.view_is (followed_session w.execution w.cap.entries w.edits w.finding c.self.invariant)
