use Rattle.std.proofs.Common.{sym, subst}
use Rattle.cstn_lift.specs.Read.{the_labelled}
use Rattle.cstn_history.specs.Read.{the_history}
use Rattle.cstn_follow.specs.Pauses.{IsRightPause}
use Rattle.cstn_follow.specs.declared.answers.Pause.{Pause}
use Rattle.cstn_follow.proofs.SessionAsks.{pause_right}
use Rattle.cstn_follow.proofs.session.Session.until.Goals as goal

pub returns-clause-right : goal.returns-clause-right
returns-clause-right c =
    let s = c.args.self.now in
    subst (λ (p : Pause). IsRightPause (the_labelled s.network) (the_history s.history) s.fresh s.cap p) (sym c.in_ok-pause.ensures.told)
    (pause_right s c.verdict.ensures.session)
