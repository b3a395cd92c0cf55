use Rattle.std.proofs.Common.{subst, ap, sym, ◌∙◌}
use Rattle.std.specs.Prelude.{IfOk}
use Rattle.cstn_net.specs.Read.{the_network}
use Rattle.cstn_lift.specs.Lowered.{lowered}
use Rattle.cstn_lift.specs.Read.{LabelledParts, the_labelled}
use Rattle.cstn_reply.specs.Read.{the_said}
use Rattle.cstn_top.specs.Plans.{ComesTo}
use Rattle.cstn_top.specs.commands.Run.{run_answer}
use Rattle.cstn_top.specs.Prepared.{the_plan}
use Rattle.cstn_check.specs.Decisions.{TellsVerdict}
use Rattle.cstn_check.specs.declared.decisions.Judged.{Judged}
use Rattle.cstn_check.specs.declared.decisions.Judged.TheVariants.{Yes}
use Rattle.cstn_top.proofs.Runs.{told_for}
use Rattle.cstn_top.proofs.commands.run.run_session.Goals as goal

pub begin-requires-clause-lowered : goal.begin-requires-clause-lowered
begin-requires-clause-lowered c =
    let decided : TellsVerdict c.args.cap.entries c.args.names.now c.split-network.result.0 (Yes c.in-Yes.load c.in-Yes.check) = subst (λ (d : Judged). TellsVerdict c.args.cap.entries c.args.names.now c.split-network.result.0 d) c.in-Yes.is c.in_ok-load.ensures.judged in
    ap the_network decided.2 ∙ c.split-network.ensures.lowered ∙ ap (λ (l : LabelledParts). lowered (the_labelled l)) (sym c.split-network.ensures.labels)

pub returns-in-Yes-clause-comes : goal.returns-in-Yes-clause-comes
returns-in-Yes-clause-comes c =
    subst (λ (l : LabelledParts). IfOk c.begin.result (λ prepared. ComesTo (run_answer c.args.cap.entries c.args.names.now (the_labelled l)) (the_plan prepared))) c.split-network.ensures.labels c.begin.ensures.comes

pub returns-in-Told-clause-comes : goal.returns-in-Told-clause-comes
returns-in-Told-clause-comes c =
    told_for c.args.cap.entries c.args.names.now (the_network c.split-network.result.0) (the_labelled c.args.labelled) (the_said c.in-Told.said) c.split-network.ensures.lowered
    (subst (λ (d : Judged). TellsVerdict c.args.cap.entries c.args.names.now c.split-network.result.0 d) c.in-Told.is c.in_ok-load.ensures.judged)
