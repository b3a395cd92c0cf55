use Rattle.std.proofs.Common.{sym, subst}
use Rattle.cstn_lift.specs.Read.{the_labelled}
use Rattle.cstn_history.specs.Read.{the_history}
use Rattle.cstn_follow.specs.Lateness.{Late, IsRightLate}
use Rattle.cstn_follow.proofs.SessionAsks.{late_right}
use Rattle.cstn_follow.proofs.session.Session.late.Goals as goal

pub returns-clause-right : goal.returns-clause-right
returns-clause-right c =
    let s = c.args.self.now in
    subst (λ (l : Late). IsRightLate (the_labelled s.network) (the_history s.history) s.fresh s.cap c.args.p.index l) (sym c.in_ok-late.ensures.told)
    (late_right s c.verdict.ensures.session c.args.p.index)
