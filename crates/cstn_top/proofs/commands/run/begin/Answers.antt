use Rattle.std.proofs.Common.{◌++◌, refl, ap, ◌∙◌, codes, decimal}
use Rattle.cstn_net.specs.Networks.{Network}
use Rattle.cstn_net.specs.Read.{the_network}
use Rattle.cstn_lift.specs.Lowered.{lowered}
use Rattle.cstn_lift.specs.Read.{the_labelled}
use Rattle.cstn_check.specs.Growth.{log_of, load_of, live_bounds}
use Rattle.cstn_reply.specs.Texts.{yes_line}
use Rattle.cstn_top.proofs.GuidedRuns.{begun}
use Rattle.cstn_run.proofs.Runs.{line_ends}
use Rattle.cstn_top.proofs.Runs.{verdict_for}
use Rattle.cstn_top.proofs.commands.run.begin.Goals as goal

pub start-requires : goal.start-requires
start-requires c = record { lowered = ap the_network c.into_plan.ensures.network ∙ c.requires.lowered }

pub returns-clause-comes : goal.returns-clause-comes
returns-clause-comes c =
    begun c.args.cap.entries c.args.names.now c.args.labels c.in_ok-opening.opening.items c.into_plan.result c.in_ok-guide.guide c.in_ok-session.session
    (verdict_for c.args.cap.entries (the_network c.args.check.net) (lowered (the_labelled c.args.labels)) c.requires.lowered c.requires.verdict)
    (c.in_ok-opening.ensures.line ∙ ap yes_line (c.requires.load ∙ ap load_of c.requires.lowered))
    (c.into_plan.ensures.live ∙ ap (λ (n : Network). live_bounds (log_of n)) c.requires.lowered)
    c.in_ok-guide.ensures.start c.in_ok-session.ensures.start

pub returns-clause-fits : goal.returns-clause-fits
returns-clause-fits c = (line_ends c.in_ok-opening.opening.items (codes "yes " ++ decimal (load_of (the_network c.args.check.net))) (c.in_ok-opening.ensures.line ∙ ap yes_line c.requires.load), refl)
