use Rattle.std.proofs.Common.{◌∙◌, length, arith, refl, sym, ap}
use Rattle.cstn_element.proofs.Places.{step_of, ended_is, misnamed_is, wrong_is, unfinished_is}
use Rattle.cstn_element.proofs.ChildLemmas.{same_run, run_cuts, cuts, ends, starts}
use Rattle.cstn_element.proofs.children.next_child.Goals as goal

pub loop-name-init : goal.loop-name-init
loop-name-init c = record { same = λ others. (refl, refl); less = omega arith }

pub returns-in-Start-clause-next : goal.returns-in-Start-clause-next
returns-in-Start-clause-next c = λ others l.
    starts _ _ _ _ _ _ _ _ (c.loop-name.invariant.same others) (step_of _ _ _ _ c.step-at.ensures.steps c.in-Start.is) (omega (arith, l))

pub returns-then-eq-clause-next : goal.returns-then-eq-clause-next
returns-then-eq-clause-next c = λ others l.
    ends _ _ _ c.step-at.new.self (c.loop-name.invariant.same others) _ _ (ended_is _ _ _ _ _ _ (step_of _ _ _ _ c.step-at.ensures.steps c.in-End.is) c.if-eq.ensures)

pub returns-in-End-clause-next : goal.returns-in-End-clause-next
returns-in-End-clause-next c = λ others l.
    cuts _ _ _ c.step-at.new.self (c.loop-name.invariant.same others) _ (misnamed_is _ _ _ _ _ _ (step_of _ _ _ _ c.step-at.ensures.steps c.in-End.is) c.if-eq.ensures)

pub returns-then-not-is_blank-clause-next : goal.returns-then-not-is_blank-clause-next
returns-then-not-is_blank-clause-next c = λ others l.
    run_cuts _ _ _ _ (c.loop-name.invariant.same others) _ _ (step_of _ _ _ _ c.step-at.ensures.steps c.in-Text.is) (sym c.is_blank.ensures ∙ c.if-not-is_blank.true)

pub loop-name-preserved : goal.loop-name-preserved
loop-name-preserved c =
    let h = step_of _ _ _ _ c.step-at.ensures.steps c.in-Text.is in
    record {
      same = λ others. same_run _ _ _ _ (c.loop-name.invariant.same others) _ _ h (sym c.is_blank.ensures ∙ c.if-not-is_blank.false);
      less = omega (arith, ap length h, c.loop-name.invariant.less);
    }

pub returns-in-Wrong-clause-next : goal.returns-in-Wrong-clause-next
returns-in-Wrong-clause-next c = λ others l.
    cuts _ _ _ c.step-at.new.self (c.loop-name.invariant.same others) _ (wrong_is _ _ _ _ (step_of _ _ _ _ c.step-at.ensures.steps c.in-Wrong.is))

pub returns-in-Finish-clause-next : goal.returns-in-Finish-clause-next
returns-in-Finish-clause-next c = λ others l.
    cuts _ _ _ c.step-at.new.self (c.loop-name.invariant.same others) _ (unfinished_is _ _ _ _ _ (step_of _ _ _ _ c.step-at.ensures.steps c.in-Finish.is))
