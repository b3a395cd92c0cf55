use Rattle.std.proofs.Common.{sym, ap, ◌∙◌}
use Rattle.std.specs.Prelude.{Err}
use Rattle.cstn_lift.specs.Read.{the_labelled}
use Rattle.cstn_history.specs.Histories.{History}
use Rattle.cstn_follow.specs.Following.{verdict_left}
use Rattle.cstn_follow.proofs.Starting.{starts}
use Rattle.cstn_follow.proofs.session.Session.start.Goals as goal

pub unreachable-requires : goal.unreachable-requires
unreachable-requires c =
    let e = c.in-Err-TooManyConstraints in
    let x = c.in_ok-execution.execution in
    let good = c.in_ok-execution.ensures.execution in
    let none = c.finding.ensures.many (e.is ∙ ap (λ d. Err d) e.field-0-is) in
    starts (the_labelled x.network) x.fresh c.args.cap.entries good.labelled good.few
    (ap (λ (h : History). verdict_left (the_labelled x.network) h x.fresh c.args.cap.entries) (sym c.in_ok-execution.ensures.nothing) ∙ none)
