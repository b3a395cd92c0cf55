use Rattle.std.proofs.Common.{◌≡◌, subst}
use Rattle.std.specs.Prelude.{IfOk}
use Rattle.cstn_follow.specs.MarkedRead.{MarkedParts, the_marked, the_marked_heard}
use Rattle.cstn_follow.specs.Read.{the_following, IsSaidFor}
use Rattle.cstn_follow.specs.Trials.{the_triable, on_try}
use Rattle.cstn_follow.proofs.Marking.{said_with_marks}
use Rattle.cstn_follow.proofs.marked.Marked.try_line.Goals as goal

pub returns-clause-heard : goal.returns-clause-heard
returns-clause-heard c =
    let line = the_triable c.args.line in
    subst (λ (t : MarkedParts). IfOk c.try_line.result (λ h. record { heard = on_try (the_marked t).now line; marks = (the_marked t).marks }
    ≡ the_marked_heard t h)) c.self.view_is
    (said_with_marks (on_try (the_following c.self.inside.following) line) c.self.inside.following c.self.inside.marks.items c.try_line.result
    c.try_line.ensures.heard)

pub returns-clause-said : goal.returns-clause-said
returns-clause-said c = subst (λ (t : MarkedParts). IfOk c.try_line.result (IsSaidFor t.now.names)) c.self.view_is c.try_line.ensures.said
