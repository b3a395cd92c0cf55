use Rattle.std.proofs.Common.{ℕ, ◌≡◌, ◌∙◌, ◌≤◌, ◌+◌, [], length, map, ap, sym, subst, arith, IfOk, IfErr}
use Rattle.std.specs.Prelude.{None, Some}
use Rattle.std.specs.List.{All}
use Rattle.std.proofs.lemmas.Grind.{common_steps}
use Rattle.std.proofs.lemmas.List.{length-map}
use Rattle.std.proofs.lemmas.List.Elements.{All-push}
use Rattle.cstn_net.specs.Limits.{most_load}
use Rattle.cstn_rules.specs.Read.{the_entry}
use Rattle.cstn_text.specs.Parts.{parts_at}
use Rattle.cstn_text.specs.Listings.{told_after}
use Rattle.cstn_refute.specs.Refutations.{IsStep, the_steps}
use Rattle.cstn_refute.specs.Read.{IsWrongStepLine}
use Rattle.cstn_refute.specs.Steps.{step_read}
use Rattle.cstn_refute.specs.Texts.{RefutationTold, tells, wrong, step_lines}
use Rattle.cstn_refute.proofs.OrderLemmas.{told_viewed, wrong_viewed, told_last}
use Rattle.cstn_refute.proofs.reading.read_steps.Goals as goal

pub returns-clause-accepted : goal.returns-clause-accepted
returns-clause-accepted c =
    let last = told_last (step_lines c.args.names.now) c.args.load (map the_entry c.loop-line.steps.items) c.loop-line.left.now (sym c.in_default.ensures.cut) in
    subst (λ t. IfOk c.finish.result (λ r. t ≡ tells r.load (the_steps r))) (sym last ∙ c.loop-line.invariant.told) c.finish.ensures.accepted

pub returns-clause-line : goal.returns-clause-line
returns-clause-line c =
    let last = told_last (step_lines c.args.names.now) c.args.load (map the_entry c.loop-line.steps.items) c.loop-line.left.now (sym c.in_default.ensures.cut) in
    subst (λ t. IfErr c.finish.result (IsWrongStepLine t)) (sym last ∙ c.loop-line.invariant.told) c.finish.ensures.line

pub loop-line-preserved : goal.loop-line-preserved
loop-line-preserved c =
    let kind = step_lines c.args.names.now in
    let steps = c.loop-line.steps.items in
    let step = c.in-Some-read_step.step in
    let count = c.len-k.ensures ∙ c.loop-line.steps.ok.0 in
    let read = subst (λ k. step_read c.args.names.now k c.in-Some.line.now ≡ Some (the_entry step)) (count ∙ sym (length-map steps the_entry)) (sym c.in-Some-read_step.ensures.step) in
    let few = c.in-Some-read_step.ensures.few in
    let on = told_viewed kind the_entry c.args.load steps c.loop-line.left.now c.in-Some.line.now c.in-Some.rest.now step _
    (sym c.in-Some.ensures.cut) read c.loop-line.invariant.told in
    subst (λ xs. record { told : told_after kind c.args.load (map the_entry xs) (parts_at 10 c.in-Some.rest.now).0 (parts_at 10 c.in-Some.rest.now).1 ≡ told_after kind c.args.load [] (parts_at 10 c.args.bytes.now).0 (parts_at 10 c.args.bytes.now).1; few : length xs ≤ most_load; each : All IsStep xs })
    (sym c.in-Ok.ensures.items)
    (record { told = on; few = grind (arith, common_steps); each = All-push IsStep steps step c.loop-line.invariant.each c.in-Some-read_step.ensures.form })

pub returns-in_default-read_step-clause-line : goal.returns-in_default-read_step-clause-line
returns-in_default-read_step-clause-line c =
    let steps = c.loop-line.steps.items in
    let count = c.len-k.ensures ∙ c.loop-line.steps.ok.0 in
    let line_wrong : ℕ → RefutationTold = λ n. wrong (n + 2) in
    let read = subst (λ k. step_read c.args.names.now k c.in-Some.line.now ≡ None) (count ∙ sym (length-map steps the_entry)) (sym c.in_default-read_step.ensures.step) in
    wrong_viewed (step_lines c.args.names.now) the_entry c.args.load steps c.loop-line.left.now c.in-Some.line.now c.in-Some.rest.now _
    (sym c.in-Some.ensures.cut) read c.loop-line.invariant.told
    ∙ ap line_wrong (sym count)
