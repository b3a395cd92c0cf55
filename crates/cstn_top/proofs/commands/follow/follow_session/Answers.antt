use Rattle.std.proofs.Common.{refl, sym, subst}
use Rattle.cstn_lift.specs.Read.{the_labelled}
use Rattle.cstn_reply.specs.Written.{EndsLine}
use Rattle.cstn_top.proofs.FollowedLines.{begins, opening_ends}
use Rattle.cstn_top.proofs.commands.follow.follow_session.Goals as goal

pub returns-clause-comes : goal.returns-clause-comes
returns-clause-comes c =
    begins c.args.cap.entries c.args.names (the_labelled c.args.labelled) c.in_ok-marked.marked c.verdict.result c.in_ok-opening.opening.items
    c.in_ok-marked.ensures.start c.verdict.ensures.verdict c.in_ok-opening.ensures.opening

pub returns-clause-fits : goal.returns-clause-fits
returns-clause-fits c = (subst EndsLine (sym c.in_ok-opening.ensures.opening) (opening_ends c.args.cap.entries c.verdict.result), refl)
