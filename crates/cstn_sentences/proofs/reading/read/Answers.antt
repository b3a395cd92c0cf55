use Rattle.std.proofs.Common.{Some, arith, sym, subst}
use Rattle.std.proofs.lemmas.Result.{IfOk-weaker, IfErr-weaker}
use Rattle.cstn_lift.specs.Read.{the_labelled}
use Rattle.cstn_sentences.specs.Declarations.{nothing_declared}
use Rattle.cstn_sentences.specs.Drawn.{IsKeptOfWhole}
use Rattle.cstn_sentences.specs.Planned.{IsFitPlan, RefusesPlan}
use Rattle.cstn_sentences.specs.SeenDeclared.{the_declared}
use Rattle.cstn_sentences.specs.SeenMeaning.{the_meaning}
use Rattle.cstn_sentences.specs.Words.{plan_lines}
use Rattle.cstn_sentences.proofs.DeclaredInOrder.{nothing_in_order, lines_kept, lines_of_words}
use Rattle.cstn_sentences.proofs.PlanInOrder.{graph_is_drawn}
use Rattle.cstn_sentences.proofs.PlansTold.{plan_told}
use Rattle.cstn_sentences.proofs.reading.read.Goals as goal

pub new-requires-2 : goal.new-requires-2
new-requires-2 c = (lines_kept 1 (plan_lines c.args.text.now) nothing_declared (the_declared c.in_ok-d.d) nothing_in_order c.in_ok-d.ensures).each

pub mean_lines-requires-clause-words : goal.mean_lines-requires-clause-words
mean_lines-requires-clause-words c = lines_of_words 1 (plan_lines c.args.text.now) nothing_declared (the_declared c.in_ok-d.d) c.in_ok-d.ensures

pub answer-requires : goal.answer-requires
answer-requires c =
    let is = c.in_ok-m.ensures.meant in
    (is.whole, record { kept_is = is.kept_is; drawn = graph_is_drawn (plan_lines c.args.text.now) (the_declared c.in_ok-d.d) is.whole c.in_ok-d.ensures is.whole_is })

pub returns-clause-accepted : goal.returns-clause-accepted
returns-clause-accepted c =
    let d = the_declared c.in_ok-d.d in
    let is = c.in_ok-m.ensures.meant in
    let whole : IsKeptOfWhole d (the_meaning c.in_ok-m.m) is.whole = record { kept_is = is.kept_is; drawn = graph_is_drawn (plan_lines c.args.text.now) d is.whole c.in_ok-d.ensures is.whole_is } in
    let told = plan_told c.args.text.now c.args.deadline d (omega (arith, c.if-text-gt-MAX_PLAN.false)) c.in_ok-d.ensures is.whole (Some c.in-Some.ticks) is.whole_is c.in-Some.ensures in
    IfOk-weaker c.answer.result _ _ (λ r fit. subst (λ p. IsFitPlan p (the_labelled r.0) r.1) (sym told) (fit is.whole whole)) c.answer.ensures.accepted

pub returns-clause-refused : goal.returns-clause-refused
returns-clause-refused c =
    let d = the_declared c.in_ok-d.d in
    let is = c.in_ok-m.ensures.meant in
    let whole : IsKeptOfWhole d (the_meaning c.in_ok-m.m) is.whole = record { kept_is = is.kept_is; drawn = graph_is_drawn (plan_lines c.args.text.now) d is.whole c.in_ok-d.ensures is.whole_is } in
    let told = plan_told c.args.text.now c.args.deadline d (omega (arith, c.if-text-gt-MAX_PLAN.false)) c.in_ok-d.ensures is.whole (Some c.in-Some.ticks) is.whole_is c.in-Some.ensures in
    IfErr-weaker c.answer.result _ _ (λ e refused. subst (λ p. RefusesPlan p e) (sym told) (refused is.whole whole)) c.answer.ensures.refused
