use Rattle.std.proofs.Common.{sym, subst}
use Rattle.std.specs.Prelude.{IfOk}
use Rattle.cstn_lift.specs.Read.{the_labelled}
use Rattle.cstn_reply.specs.Read.{the_said}
use Rattle.cstn_request.specs.declared.words.LabelledVerb.{LabelledVerb}
use Rattle.cstn_request.specs.declared.words.LabelledVerb.TheVariants.{Cases}
use Rattle.cstn_top.specs.Plans.{says, ComesTo}
use Rattle.cstn_top.specs.Dispatch.{labelled_answer, labelled_kind}
use Rattle.cstn_top.specs.Prepared.{the_plan, FitsKind}
use Rattle.cstn_top.proofs.Comes.{comes_to_text}
use Rattle.cstn_top.proofs.commands.answers.answer_labelled.Goals as goal

pub returns-in-Follow-clause-comes : goal.returns-in-Follow-clause-comes
returns-in-Follow-clause-comes c =
    subst (λ (v : LabelledVerb). IfOk c.follow_session.result (λ prepared. ComesTo (labelled_answer v c.args.cap.entries c.args.document.names (the_labelled c.args.document.labelled)) (the_plan prepared))) (sym c.in-Follow.is) c.follow_session.ensures.comes

pub returns-in-Follow-clause-fits : goal.returns-in-Follow-clause-fits
returns-in-Follow-clause-fits c =
    subst (λ (v : LabelledVerb). IfOk c.follow_session.result (FitsKind (labelled_kind v))) (sym c.in-Follow.is) c.follow_session.ensures.fits

pub returns-in-Run-clause-comes : goal.returns-in-Run-clause-comes
returns-in-Run-clause-comes c =
    subst (λ (v : LabelledVerb). IfOk c.run_session.result (λ prepared. ComesTo (labelled_answer v c.args.cap.entries c.args.document.names (the_labelled c.args.document.labelled)) (the_plan prepared))) (sym c.in-Run.is) c.run_session.ensures.comes

pub returns-in-Run-clause-fits : goal.returns-in-Run-clause-fits
returns-in-Run-clause-fits c =
    subst (λ (v : LabelledVerb). IfOk c.run_session.result (FitsKind (labelled_kind v))) (sym c.in-Run.is) c.run_session.ensures.fits

pub returns-in_ok-said-in-Cases-clause-comes : goal.returns-in_ok-said-in-Cases-clause-comes
returns-in_ok-said-in-Cases-clause-comes c =
    subst (λ (v : LabelledVerb). ComesTo (labelled_answer v c.args.cap.entries c.args.document.names (the_labelled c.args.document.labelled)) (says (the_said c.in_ok-said-in-Cases.said))) (sym c.in-Cases.is)
    (comes_to_text (labelled_answer Cases c.args.cap.entries c.args.document.names (the_labelled c.args.document.labelled)) (the_said c.in_ok-said-in-Cases.said) (λ live. c.in_ok-said-in-Cases.ensures.said))
