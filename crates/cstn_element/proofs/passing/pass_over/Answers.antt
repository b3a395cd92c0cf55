use Rattle.std.proofs.Common.{length, arith, ap, sym}
use Rattle.std.proofs.lemmas.Bool.{not-false, not-true}
use Rattle.std.proofs.lemmas.List.{length-append}
use Rattle.cstn_element.proofs.Places.{step_of, wrong_is, deep_is}
use Rattle.cstn_element.proofs.PassedOver.{passes_from, passes_cut, passes_unfinished, passes_end, passes_misnamed, passes_run, passes_closed, passes_open, passes_all, some_open, none_open}
use Rattle.cstn_element.proofs.passing.pass_over.Goals as goal

pub loop-open_names-init : goal.loop-open_names-init
loop-open_names-init c = record { same = λ others l. passes_from _ _ others _ c.new-open_names.ensures; less = omega arith }

pub returns-then-depth-len-ge32-clause-reads : goal.returns-then-depth-len-ge32-clause-reads
returns-then-depth-len-ge32-clause-reads c = λ others l.
    let some = some_open _ _ c.is_empty.ensures c.loop-open_names-test.true in
    passes_cut _ _ others _ _ _ _ some (c.loop-open_names.invariant.same others l)
    (deep_is _ _ _ _ _ _ _ (step_of _ _ _ _ c.step-at.ensures.steps c.in-Start.is) (omega (arith, l, c.len.ensures.value, length-append c.loop-open_names.open_names others)))

pub loop-open_names-preserved-then-not-closed : goal.loop-open_names-preserved-then-not-closed
loop-open_names-preserved-then-not-closed c =
    let h = step_of _ _ _ _ c.step-at.ensures.steps c.in-Start.is in
    let some = some_open _ _ c.is_empty.ensures c.loop-open_names-test.true in
    record {
      same = λ others l. passes_open _ _ _ others _ _ _ _ _ _ _ some (c.loop-open_names.invariant.same others l) h (omega (arith, l, c.len.ensures.value, length-append c.loop-open_names.open_names others)) c.if-not-closed.true c.push.ensures;
      less = omega (arith, ap length h);
    }

pub loop-open_names-preserved-else-not-closed : goal.loop-open_names-preserved-else-not-closed
loop-open_names-preserved-else-not-closed c =
    let h = step_of _ _ _ _ c.step-at.ensures.steps c.in-Start.is in
    let some = some_open _ _ c.is_empty.ensures c.loop-open_names-test.true in
    record {
      same = λ others l. passes_closed _ _ others _ _ _ _ _ _ _ some (c.loop-open_names.invariant.same others l) h (omega (arith, l, c.len.ensures.value, length-append c.loop-open_names.open_names others)) c.if-not-closed.false;
      less = omega (arith, ap length h);
    }

pub returns-then-ne-clause-reads : goal.returns-then-ne-clause-reads
returns-then-ne-clause-reads c = λ others l.
    passes_misnamed _ _ _ _ _ others _ _ _ _ c.pop.ensures (c.loop-open_names.invariant.same others l) (step_of _ _ _ _ c.step-at.ensures.steps c.in-End.is) (sym (not-true _ (sym c.if-ne.ensures)))

pub loop-open_names-preserved-else-ne : goal.loop-open_names-preserved-else-ne
loop-open_names-preserved-else-ne c =
    let h = step_of _ _ _ _ c.step-at.ensures.steps c.in-End.is in
    record {
      same = λ others l. passes_end _ _ _ _ _ others _ _ _ _ c.pop.ensures (c.loop-open_names.invariant.same others l) h (sym (not-false _ (sym c.if-ne.ensures)));
      less = omega (arith, ap length h);
    }

pub loop-open_names-preserved : goal.loop-open_names-preserved
loop-open_names-preserved c =
    let h = step_of _ _ _ _ c.step-at.ensures.steps c.in-Text.is in
    let some = some_open _ _ c.is_empty.ensures c.loop-open_names-test.true in
    record { same = λ others l. passes_run _ _ others _ _ _ _ _ some (c.loop-open_names.invariant.same others l) h; less = omega (arith, ap length h) }

pub returns-in-Wrong-clause-reads : goal.returns-in-Wrong-clause-reads
returns-in-Wrong-clause-reads c = λ others l.
    let some = some_open _ _ c.is_empty.ensures c.loop-open_names-test.true in
    passes_cut _ _ others _ _ _ _ some (c.loop-open_names.invariant.same others l) (wrong_is _ _ _ _ (step_of _ _ _ _ c.step-at.ensures.steps c.in-Wrong.is))

pub returns-in-Finish-clause-reads : goal.returns-in-Finish-clause-reads
returns-in-Finish-clause-reads c = λ others l.
    let some = some_open _ _ c.is_empty.ensures c.loop-open_names-test.true in
    passes_unfinished _ _ others _ _ _ _ some (c.loop-open_names.invariant.same others l) (step_of _ _ _ _ c.step-at.ensures.steps c.in-Finish.is)

pub returns-clause-reads : goal.returns-clause-reads
returns-clause-reads c = λ others l. passes_all _ _ others _ _ (none_open _ _ c.is_empty.ensures c.loop-open_names-test.false) (c.loop-open_names.invariant.same others l)
