use Rattle.std.proofs.Common.{◌≡◌, Some, None, inr, sym, subst, ap, ◌∙◌}
use Rattle.std.specs.Prelude.{Err}
use Rattle.cstn_lift.specs.Read.{the_labelled}
use Rattle.cstn_history.specs.Continuations.{Can}
use Rattle.cstn_history.specs.Read.{the_history}
use Rattle.cstn_follow.specs.Answers.{HasRoomLeftToWait, IsLatest, wait_found}
use Rattle.cstn_follow.specs.Sessions.{SessionParts, IsSession}
use Rattle.cstn_follow.proofs.Found.{followed_session, can_go_on}
use Rattle.cstn_follow.proofs.session.Session.latest_possible.Goals as goal

pub latest-requires-clause-can : goal.latest-requires-clause-can
latest-requires-clause-can c =
    let w = c.self.inside in
    let session = subst (λ (s : SessionParts). IsSession s) c.self.view_is (followed_session w.execution w.cap.entries w.edits w.finding c.self.invariant) in
    subst (λ (s : SessionParts). Can (the_labelled s.network) (the_history s.history)) (sym c.self.view_is) (can_go_on c.args.self.now session c.requires.yes)

pub unreachable-requires : goal.unreachable-requires
unreachable-requires c =
    let e = c.in-Err-TooManyConstraints in
    c.latest.ensures.many (e.is ∙ ap (λ d. Err d) e.field-0-is) (subst (λ (s : SessionParts). HasRoomLeftToWait s) (sym c.self.view_is) c.requires.room)

pub returns-in-Ok-clause-right : goal.returns-in-Ok-clause-right
returns-in-Ok-clause-right c = (
  c.requires.left,
  subst (λ (s : SessionParts). IsLatest (the_labelled s.network) (the_history s.history) c.args.x.0 c.in-Ok.moment) c.self.view_is
      (record { waits = c.in-Ok.ensures.waits; last = c.in-Ok.ensures.last }),
)

pub returns-in-Ok-clause-told : goal.returns-in-Ok-clause-told
returns-in-Ok-clause-told c =
    (c.requires.room, c.requires.yes, subst (λ (s : SessionParts). wait_found s c.args.x.0 ≡ Some c.in-Ok.moment) c.self.view_is c.in-Ok.ensures.until)

pub returns-in-Err-Full-clause-told : goal.returns-in-Err-Full-clause-told
returns-in-Err-Full-clause-told c =
    let full = (c.latest.ensures.full (c.in-Err-Full.is ∙ ap (λ d. Err d) c.in-Err-Full.field-0-is)).1 in
    (c.requires.room, inr (c.requires.yes, subst (λ (s : SessionParts). wait_found s c.args.x.0 ≡ None) c.self.view_is full))
