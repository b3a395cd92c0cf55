use Rattle.std.proofs.Common.{List, ℕ, ap, sym, subst}
use Rattle.std.specs.Prelude.{IfOk}
use Rattle.cstn_net.specs.Read.{the_network}
use Rattle.cstn_lift.specs.Read.{the_labelled}
use Rattle.cstn_reply.specs.Read.{the_said}
use Rattle.cstn_top.specs.Plans.{says, ComesTo}
use Rattle.cstn_top.specs.Answers.{IsByText}
use Rattle.cstn_top.specs.Dispatch.{IsVerbText, text_answer, document_answer}
use Rattle.cstn_top.specs.commands.Plan.{planned}
use Rattle.cstn_top.specs.commands.Drill.{drilled}
use Rattle.cstn_top.specs.commands.Version.{versioned}
use Rattle.cstn_top.specs.Prepared.{the_plan, FitsKind}
use Rattle.cstn_top.specs.Questions.{IsSoundQuestion, the_question, question_kind}
use Rattle.cstn_top.specs.declared.commands.questions.Question.{Question}
use Rattle.cstn_top.proofs.Comes.{comes_same, comes_to_text}
use Rattle.cstn_top.proofs.commands.answers.answer.Goals as goal

pub answer_network-requires : goal.answer_network-requires
answer_network-requires c =
    let read = subst IsSoundQuestion c.in-OfNetwork.is c.requires.sound in
    record { sound = read.0; small = read.1 }

pub answer_labelled-requires : goal.answer_labelled-requires
answer_labelled-requires c =
    let read = subst IsSoundQuestion c.in-OfLabelled.is c.requires.sound in
    record { names = read.0; ids = read.1 }

pub returns-in-OfNetwork-clause-comes : goal.returns-in-OfNetwork-clause-comes
returns-in-OfNetwork-clause-comes c =
    subst (λ (q : Question). IfOk c.answer_network.result (λ prepared. ComesTo (the_question q) (the_plan prepared))) (sym c.in-OfNetwork.is) c.answer_network.ensures.comes

pub returns-in-OfNetwork-clause-fits : goal.returns-in-OfNetwork-clause-fits
returns-in-OfNetwork-clause-fits c =
    subst (λ (q : Question). IfOk c.answer_network.result (FitsKind (question_kind q))) (sym c.in-OfNetwork.is) c.answer_network.ensures.fits

pub returns-in-OfLabelled-clause-comes : goal.returns-in-OfLabelled-clause-comes
returns-in-OfLabelled-clause-comes c =
    subst (λ (q : Question). IfOk c.answer_labelled.result (λ prepared. ComesTo (the_question q) (the_plan prepared))) (sym c.in-OfLabelled.is) c.answer_labelled.ensures.comes

pub returns-in-OfLabelled-clause-fits : goal.returns-in-OfLabelled-clause-fits
returns-in-OfLabelled-clause-fits c =
    subst (λ (q : Question). IfOk c.answer_labelled.result (FitsKind (question_kind q))) (sym c.in-OfLabelled.is) c.answer_labelled.ensures.fits

pub returns-in_ok-said-in-OfText-clause-comes : goal.returns-in_ok-said-in-OfText-clause-comes
returns-in_ok-said-in-OfText-clause-comes c =
    subst (λ (q : Question). ComesTo (the_question q) (says (the_said c.in_ok-said-in-OfText.said))) (sym c.in-OfText.is)
    (comes_to_text (text_answer c.in-OfText.verb c.in-OfText.text.items c.in-OfText.document.names (the_network c.in-OfText.document.network)) (the_said c.in_ok-said-in-OfText.said)
    (λ live. subst (λ (bytes : List ℕ). IsByText (IsVerbText c.in-OfText.verb c.in-OfText.document.names bytes (the_network c.in-OfText.document.network)) bytes (the_said c.in_ok-said-in-OfText.said)) c.deref.ensures.value c.in_ok-said-in-OfText.ensures.said))

pub returns-in_ok-said-in-OfDocument-clause-comes : goal.returns-in_ok-said-in-OfDocument-clause-comes
returns-in_ok-said-in-OfDocument-clause-comes c =
    subst (λ (q : Question). ComesTo (the_question q) (says (the_said c.in_ok-said-in-OfDocument.said))) (sym c.in-OfDocument.is)
    (comes_same (document_answer c.in-OfDocument.verb c.in-OfDocument.document.names (the_labelled c.in-OfDocument.document.labelled)) (says (the_said c.in_ok-said-in-OfDocument.said)) (ap says c.in_ok-said-in-OfDocument.ensures.said))

pub returns-in_ok-said-in-OfPlan-clause-comes : goal.returns-in_ok-said-in-OfPlan-clause-comes
returns-in_ok-said-in-OfPlan-clause-comes c =
    subst (λ (q : Question). ComesTo (the_question q) (says (the_said c.in_ok-said-in-OfPlan.said))) (sym c.in-OfPlan.is)
    (comes_to_text (planned c.in-OfPlan.text.items c.in-OfPlan.deadline) (the_said c.in_ok-said-in-OfPlan.said)
    (subst (λ (bytes : List ℕ). (live : List ℕ) → (planned bytes c.in-OfPlan.deadline).output live (the_said c.in_ok-said-in-OfPlan.said)) c.deref-in-OfPlan.ensures.value c.in_ok-said-in-OfPlan.ensures.said))

pub returns-in_ok-said-in-Drill-clause-comes : goal.returns-in_ok-said-in-Drill-clause-comes
returns-in_ok-said-in-Drill-clause-comes c =
    subst (λ (q : Question). ComesTo (the_question q) (says (the_said c.in_ok-said-in-Drill.said))) (sym c.in-Drill.is)
    (comes_same (says (drilled c.in-Drill.number)) (says (the_said c.in_ok-said-in-Drill.said)) (ap says c.in_ok-said-in-Drill.ensures.said))

pub returns-in-Host-clause-comes : goal.returns-in-Host-clause-comes
returns-in-Host-clause-comes c =
    subst (λ (q : Question). IfOk c.host_session.result (λ prepared. ComesTo (the_question q) (the_plan prepared))) (sym c.in-Host.is) c.host_session.ensures.comes

pub returns-in-Host-clause-fits : goal.returns-in-Host-clause-fits
returns-in-Host-clause-fits c =
    subst (λ (q : Question). IfOk c.host_session.result (FitsKind (question_kind q))) (sym c.in-Host.is) c.host_session.ensures.fits

pub returns-in_ok-said-in-Version-clause-comes : goal.returns-in_ok-said-in-Version-clause-comes
returns-in_ok-said-in-Version-clause-comes c =
    subst (λ (q : Question). ComesTo (the_question q) (says (the_said c.in_ok-said-in-Version.said))) (sym c.in-Version.is)
    (comes_same (says (versioned c.in-Version.release)) (says (the_said c.in_ok-said-in-Version.said)) (ap says c.in_ok-said-in-Version.ensures.said))
