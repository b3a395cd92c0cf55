use Rattle.std.proofs.Common.{sym, subst}
use Rattle.cstn_lift.specs.Read.{the_labelled}
use Rattle.cstn_history.specs.Read.{the_history}
use Rattle.cstn_follow.specs.LeastDeadline.{IsRightLeast}
use Rattle.cstn_follow.specs.declared.answers.LeastDeadline.{LeastDeadline}
use Rattle.cstn_follow.proofs.SessionAsks.{least_right}
use Rattle.cstn_follow.proofs.session.Session.least.Goals as goal

pub returns-clause-right : goal.returns-clause-right
returns-clause-right c =
    let s = c.args.self.now in
    subst (λ (l : LeastDeadline). IsRightLeast (the_labelled s.network) (the_history s.history) s.fresh s.cap l) (sym c.in_ok-least.ensures.told)
    (least_right s c.verdict.ensures.session)
