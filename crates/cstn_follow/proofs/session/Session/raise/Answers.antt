use Rattle.std.proofs.Common.{sym, subst}
use Rattle.cstn_lift.specs.Read.{the_labelled}
use Rattle.cstn_history.specs.Read.{the_history}
use Rattle.cstn_follow.specs.Raises.{IsRightRaise}
use Rattle.cstn_follow.specs.declared.answers.Raise.{Raise}
use Rattle.cstn_follow.proofs.SessionAsks.{raise_right}
use Rattle.cstn_follow.proofs.session.Session.raise.Goals as goal

pub returns-clause-right : goal.returns-clause-right
returns-clause-right c =
    let s = c.args.self.now in
    subst (λ (r : Raise). IsRightRaise (the_labelled s.network) (the_history s.history) s.fresh s.cap c.args.id r) (sym c.in_ok-raise.ensures.told)
    (raise_right s c.verdict.ensures.session c.args.id)
