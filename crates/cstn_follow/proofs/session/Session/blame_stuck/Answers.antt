use Rattle.std.proofs.Common.{sym, subst}
use Rattle.cstn_lift.specs.Read.{the_labelled}
use Rattle.cstn_history.specs.Continuations.{Can}
use Rattle.cstn_history.specs.Read.{the_history}
use Rattle.cstn_follow.specs.Answers.{AreToBlame}
use Rattle.cstn_follow.specs.Sessions.{SessionParts, IsSession}
use Rattle.cstn_follow.proofs.Found.{followed_session, cannot_go_on}
use Rattle.cstn_follow.proofs.session.Session.blame_stuck.Goals as goal

pub blame-requires-clause-cannot : goal.blame-requires-clause-cannot
blame-requires-clause-cannot c =
    let w = c.self.inside in
    let session = subst (λ (s : SessionParts). IsSession s) c.self.view_is (followed_session w.execution w.cap.entries w.edits w.finding c.self.invariant) in
    subst (λ (s : SessionParts). Can (the_labelled s.network) (the_history s.history) → ⊥) (sym c.self.view_is)
    (cannot_go_on c.args.self.now session c.requires.no)

pub returns-in-Ok-clause-right : goal.returns-in-Ok-clause-right
returns-in-Ok-clause-right c =
    let w = c.self.inside in
    let ids = c.in-Ok.ids.items in
    let session = subst (λ (s : SessionParts). IsSession s) c.self.view_is (followed_session w.execution w.cap.entries w.edits w.finding c.self.invariant) in
    let stuck = subst (λ (s : SessionParts). Can (the_labelled s.network) (the_history s.history) → ⊥) (sym c.self.view_is)
    (cannot_go_on c.args.self.now session c.requires.no) in
    subst (λ (s : SessionParts). AreToBlame (the_labelled s.network) (the_history s.history) ids) c.self.view_is (record {
      stuck = stuck;
      cannot = c.in-Ok.ensures.cannot;
      needed = c.in-Ok.ensures.needed;
      ascending = c.in-Ok.ensures.ascending;
    })
