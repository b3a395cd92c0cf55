use Rattle.std.proofs.Common.{◌≡◌, true, Some, None, sym, subst, ap, ◌∙◌}
use Rattle.std.specs.Prelude.{Err}
use Rattle.cstn_lift.specs.Read.{the_labelled}
use Rattle.cstn_history.specs.Continuations.{Can}
use Rattle.cstn_history.specs.Read.{the_history}
use Rattle.cstn_history.specs.Rest.{is_left}
use Rattle.cstn_follow.specs.Answers.{HasRoomLeftToWait, wait_found}
use Rattle.cstn_follow.specs.Sessions.{SessionParts, IsSession}
use Rattle.cstn_follow.proofs.Found.{followed_session, can_go_on}
use Rattle.cstn_follow.proofs.Undone.{undone_coming, undone_left}
use Rattle.cstn_follow.proofs.session.Session.wait_found.Goals as goal

pub latest-requires-clause-coming : goal.latest-requires-clause-coming
latest-requires-clause-coming c = subst (λ (s : SessionParts). (the_history s.history).done c.args.x.0 ≡ None) (sym c.self.view_is)
    (undone_coming (the_labelled c.args.self.now.network) (the_history c.args.self.now.history) c.args.x.0 c.requires.undone)

pub latest-requires-clause-left : goal.latest-requires-clause-left
latest-requires-clause-left c = subst (λ (s : SessionParts). is_left (the_labelled s.network) (the_history s.history) c.args.x.0 ≡ true) (sym c.self.view_is)
    (undone_left (the_labelled c.args.self.now.network) (the_history c.args.self.now.history) c.args.x.0 c.requires.undone)

pub latest-requires-clause-can : goal.latest-requires-clause-can
latest-requires-clause-can c =
    let w = c.self.inside in
    let session = subst (λ (s : SessionParts). IsSession s) c.self.view_is (followed_session w.execution w.cap.entries w.edits w.finding c.self.invariant) in
    subst (λ (s : SessionParts). Can (the_labelled s.network) (the_history s.history)) (sym c.self.view_is) (can_go_on c.args.self.now session c.requires.asks.0)

pub unreachable-requires : goal.unreachable-requires
unreachable-requires c =
    let e = c.in-Err-TooManyConstraints in
    c.latest.ensures.many (e.is ∙ ap (λ d. Err d) e.field-0-is) (subst (λ (s : SessionParts). HasRoomLeftToWait s) (sym c.self.view_is) c.requires.asks.1)

pub returns-in-Ok : goal.returns-in-Ok
returns-in-Ok c = record {
  found = sym (subst (λ (s : SessionParts). wait_found s c.args.x.0 ≡ Some c.in-Ok.moment) c.self.view_is c.in-Ok.ensures.until);
}

pub returns-in-Err-Full : goal.returns-in-Err-Full
returns-in-Err-Full c = record {
  found = sym (subst (λ (s : SessionParts). wait_found s c.args.x.0 ≡ None) c.self.view_is
      (c.latest.ensures.full (c.in-Err-Full.is ∙ ap (λ d. Err d) c.in-Err-Full.field-0-is)).1);
}
