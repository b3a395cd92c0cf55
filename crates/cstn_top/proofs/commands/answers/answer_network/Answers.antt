use Rattle.std.proofs.Common.{[], refl, ap, sym, subst}
use Rattle.cstn_net.specs.Read.{the_network}
use Rattle.cstn_reply.specs.Read.{the_said}
use Rattle.cstn_request.specs.declared.words.NetworkVerb.{NetworkVerb}
use Rattle.cstn_request.specs.declared.words.NetworkVerb.TheVariants.{Check, Closed, Tight, Conflict, Tree, Edit}
use Rattle.cstn_edit.specs.Editing.{edit_turn, edit_wants, edit_ending, the_editing}
use Rattle.cstn_top.specs.Plans.{says, wanting_session, ComesTo}
use Rattle.cstn_top.specs.Dispatch.{network_answer, network_kind}
use Rattle.cstn_top.specs.Prepared.{the_plan, FitsKind}
use Rattle.cstn_top.specs.declared.commands.Prepared.TheVariants.{Edits}
use Rattle.cstn_top.proofs.Comes.{comes_same, comes_to_text}
use Rattle.cstn_top.proofs.commands.answers.answer_network.Goals as goal

pub returns-in_ok-said-in-Check-clause-comes : goal.returns-in_ok-said-in-Check-clause-comes
returns-in_ok-said-in-Check-clause-comes c =
    subst (λ (v : NetworkVerb). ComesTo (network_answer v c.args.cap.entries c.args.document.names (the_network c.args.document.network)) (says (the_said c.in_ok-said-in-Check.said))) (sym c.in-Check.is)
    (comes_same (network_answer Check c.args.cap.entries c.args.document.names (the_network c.args.document.network)) (says (the_said c.in_ok-said-in-Check.said)) (ap says c.in_ok-said-in-Check.ensures.said))

pub returns-in_ok-said-in-Closed-clause-comes : goal.returns-in_ok-said-in-Closed-clause-comes
returns-in_ok-said-in-Closed-clause-comes c =
    subst (λ (v : NetworkVerb). ComesTo (network_answer v c.args.cap.entries c.args.document.names (the_network c.args.document.network)) (says (the_said c.in_ok-said-in-Closed.said))) (sym c.in-Closed.is)
    (comes_same (network_answer Closed c.args.cap.entries c.args.document.names (the_network c.args.document.network)) (says (the_said c.in_ok-said-in-Closed.said)) (ap says c.in_ok-said-in-Closed.ensures.said))

pub returns-in_ok-said-in-Tight-clause-comes : goal.returns-in_ok-said-in-Tight-clause-comes
returns-in_ok-said-in-Tight-clause-comes c =
    subst (λ (v : NetworkVerb). ComesTo (network_answer v c.args.cap.entries c.args.document.names (the_network c.args.document.network)) (says (the_said c.in_ok-said-in-Tight.said))) (sym c.in-Tight.is)
    (comes_same (network_answer Tight c.args.cap.entries c.args.document.names (the_network c.args.document.network)) (says (the_said c.in_ok-said-in-Tight.said)) (ap says c.in_ok-said-in-Tight.ensures.said))

pub returns-in_ok-said-in-Conflict-clause-comes : goal.returns-in_ok-said-in-Conflict-clause-comes
returns-in_ok-said-in-Conflict-clause-comes c =
    subst (λ (v : NetworkVerb). ComesTo (network_answer v c.args.cap.entries c.args.document.names (the_network c.args.document.network)) (says (the_said c.in_ok-said-in-Conflict.said))) (sym c.in-Conflict.is)
    (comes_same (network_answer Conflict c.args.cap.entries c.args.document.names (the_network c.args.document.network)) (says (the_said c.in_ok-said-in-Conflict.said)) (ap says c.in_ok-said-in-Conflict.ensures.said))

pub returns-in_ok-said-in-Tree-clause-comes : goal.returns-in_ok-said-in-Tree-clause-comes
returns-in_ok-said-in-Tree-clause-comes c =
    subst (λ (v : NetworkVerb). ComesTo (network_answer v c.args.cap.entries c.args.document.names (the_network c.args.document.network)) (says (the_said c.in_ok-said-in-Tree.said))) (sym c.in-Tree.is)
    (comes_to_text (network_answer Tree c.args.cap.entries c.args.document.names (the_network c.args.document.network)) (the_said c.in_ok-said-in-Tree.said) (λ live. c.in_ok-said-in-Tree.ensures.said))

pub returns-in_ok-session-in-Edit-clause-comes : goal.returns-in_ok-session-in-Edit-clause-comes
returns-in_ok-session-in-Edit-clause-comes c =
    subst (λ (v : NetworkVerb). ComesTo (network_answer v c.args.cap.entries c.args.document.names (the_network c.args.document.network)) (the_plan (Edits c.in_ok-session-in-Edit.session))) (sym c.in-Edit.is)
    (comes_same (network_answer Edit c.args.cap.entries c.args.document.names (the_network c.args.document.network)) (wanting_session edit_wants edit_turn edit_ending [] (the_editing c.in_ok-session-in-Edit.session)) (ap (wanting_session edit_wants edit_turn edit_ending []) c.in_ok-session-in-Edit.ensures.start))

pub returns-in_ok-session-in-Edit-clause-fits : goal.returns-in_ok-session-in-Edit-clause-fits
returns-in_ok-session-in-Edit-clause-fits c =
    subst (λ (v : NetworkVerb). FitsKind (network_kind v) (Edits c.in_ok-session-in-Edit.session)) (sym c.in-Edit.is) refl
