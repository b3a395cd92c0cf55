use Rattle.std.proofs.Common.{ℕ, ◌≡◌, ◌∙◌, ◌≤◌, ◌+◌, [], length, map, ap, sym, subst, arith}
use Rattle.std.specs.Prelude.{None, Some, IfOk, IfErr}
use Rattle.std.proofs.lemmas.Grind.{common_steps}
use Rattle.std.proofs.lemmas.List.{length-map}
use Rattle.cstn_label.specs.Read.{the_bound}
use Rattle.cstn_net.specs.Limits.{most_load}
use Rattle.cstn_text.specs.Parts.{parts_at}
use Rattle.cstn_text.specs.Listings.{told_after}
use Rattle.cstn_closed.specs.Closed.{the_listed_bounds}
use Rattle.cstn_closed.specs.Read.{IsWrongBoundLine}
use Rattle.cstn_closed.specs.Texts.{ClosedTold, tells, wrong, bound_lines, bound_line_read}
use Rattle.cstn_closed.proofs.SaidLemmas.{told_viewed, wrong_viewed, told_last}
use Rattle.cstn_closed.proofs.reading.read_bounds.Goals as goal

pub returns-clause-accepted : goal.returns-clause-accepted
returns-clause-accepted c =
    let last = told_last (bound_lines c.args.names.now) c.args.load (map the_bound c.loop-line.bounds.items) c.loop-line.left.now (sym c.in_default.ensures.cut) in
    subst (λ t. IfOk c.finish.result (λ r. t ≡ tells r.load (the_listed_bounds r))) (sym last ∙ c.loop-line.invariant.told) c.finish.ensures.accepted

pub returns-clause-line : goal.returns-clause-line
returns-clause-line c =
    let last = told_last (bound_lines c.args.names.now) c.args.load (map the_bound c.loop-line.bounds.items) c.loop-line.left.now (sym c.in_default.ensures.cut) in
    subst (λ t. IfErr c.finish.result (IsWrongBoundLine t)) (sym last ∙ c.loop-line.invariant.told) c.finish.ensures.line

pub loop-line-preserved : goal.loop-line-preserved
loop-line-preserved c =
    let kind = bound_lines c.args.names.now in
    let bounds = c.loop-line.bounds.items in
    let bound = c.in-Some-read_line.bound in
    let count = c.len-k.ensures ∙ c.loop-line.bounds.ok.0 in
    let read = subst (λ k. bound_line_read c.args.names.now k c.in-Some.line.now ≡ Some (the_bound bound)) (count ∙ sym (length-map bounds the_bound)) (sym c.in-Some-read_line.ensures.bound) in
    let few = c.in-Some-read_line.ensures.few in
    let on = told_viewed kind the_bound c.args.load bounds c.loop-line.left.now c.in-Some.line.now c.in-Some.rest.now bound _
    (sym c.in-Some.ensures.cut) read c.loop-line.invariant.told in
    subst (λ xs. record { told : told_after kind c.args.load (map the_bound xs) (parts_at 10 c.in-Some.rest.now).0 (parts_at 10 c.in-Some.rest.now).1 ≡ told_after kind c.args.load [] (parts_at 10 c.args.bytes.now).0 (parts_at 10 c.args.bytes.now).1; few : length xs ≤ most_load })
    (sym c.in-Ok.ensures.items)
    (record { told = on; few = grind (arith, common_steps) })

pub returns-in_default-read_line-clause-line : goal.returns-in_default-read_line-clause-line
returns-in_default-read_line-clause-line c =
    let bounds = c.loop-line.bounds.items in
    let count = c.len-k.ensures ∙ c.loop-line.bounds.ok.0 in
    let line_wrong : ℕ → ClosedTold = λ n. wrong (n + 2) in
    let read = subst (λ k. bound_line_read c.args.names.now k c.in-Some.line.now ≡ None) (count ∙ sym (length-map bounds the_bound)) (sym c.in_default-read_line.ensures.bound) in
    wrong_viewed (bound_lines c.args.names.now) the_bound c.args.load bounds c.loop-line.left.now c.in-Some.line.now c.in-Some.rest.now _
    (sym c.in-Some.ensures.cut) read c.loop-line.invariant.told
    ∙ ap line_wrong (sym count)
