use Rattle.std.proofs.Common.{ℕ, [], ◌++◌, length, arith, ap, ◌∙◌, refl, Vec, Global}
use Rattle.cstn_element.specs.Elements.{texts_reading}
use Rattle.cstn_element.proofs.Places.{step_of, ended_is, misnamed_is, wrong_is, unfinished_is}
use Rattle.cstn_element.proofs.Folds.{fold_cut, fold_end, fold_run, fold_refused}
use Rattle.cstn_element.proofs.TextsRead.{text_put, alone}
use Rattle.cstn_element.proofs.data_element_text.read_texts.Goals as goal

pub returns-in-Start-clause-reads : goal.returns-in-Start-clause-reads
returns-in-Start-clause-reads c = λ others.
    fold_refused texts_reading [] (λ (v : Vec ℕ Global). v.items) c.loop-found.found.items _ _ others _ _ _ _ _ _ (c.loop-found.invariant.same others)
    (step_of _ _ _ _ c.step-token.ensures.steps c.in-Start.is) (λ inside. refl)

pub returns-then-eq-clause-reads : goal.returns-then-eq-clause-reads
returns-then-eq-clause-reads c = λ others.
    fold_end texts_reading [] (λ (v : Vec ℕ Global). v.items) c.loop-found.found.items c.loop-found.found _ others _ _ _ _ (c.loop-found.invariant.same others)
    (ended_is _ _ _ _ _ _ (step_of _ _ _ _ c.step-token.ensures.steps c.in-End.is) c.if-eq.ensures) refl

pub returns-in-End-clause-reads : goal.returns-in-End-clause-reads
returns-in-End-clause-reads c = λ others.
    fold_cut texts_reading [] (λ (v : Vec ℕ Global). v.items) c.loop-found.found.items _ others _ _ _ _ (c.loop-found.invariant.same others)
    (misnamed_is _ _ _ _ _ _ (step_of _ _ _ _ c.step-token.ensures.steps c.in-End.is) c.if-eq.ensures)

pub loop-found-preserved : goal.loop-found-preserved
loop-found-preserved c =
    let h = step_of _ _ _ _ c.step-token.ensures.steps c.in-Text.is in
    record {
      same = λ others. fold_run texts_reading [] (λ (v : Vec ℕ Global). v.items) c.loop-found.found.items _ _ _ _ _ _ _ (c.loop-found.invariant.same others) h
          (text_put _ _ _ _ c.step-token.result.at c.in_ok-bytes-in-Text.ensures.resolved (c.in_ok-extend_from_slice-in-Text.ensures.items ∙ ap (λ x. c.loop-found.found.items ++ x) c.as_slice.ensures.value));
      less = omega (arith, ap length h);
    }

pub returns-in-Wrong-clause-reads : goal.returns-in-Wrong-clause-reads
returns-in-Wrong-clause-reads c = λ others.
    fold_cut texts_reading [] (λ (v : Vec ℕ Global). v.items) c.loop-found.found.items _ others _ _ _ _ (c.loop-found.invariant.same others)
    (wrong_is _ _ _ _ (step_of _ _ _ _ c.step-token.ensures.steps c.in-Wrong.is))

pub returns-in-Finish-clause-reads : goal.returns-in-Finish-clause-reads
returns-in-Finish-clause-reads c = λ others.
    fold_cut texts_reading [] (λ (v : Vec ℕ Global). v.items) c.loop-found.found.items _ others _ _ _ _ (c.loop-found.invariant.same others)
    (unfinished_is _ _ _ _ _ (step_of _ _ _ _ c.step-token.ensures.steps c.in-Finish.is))

pub loop-found-preserved-then-is_empty : goal.loop-found-preserved-then-is_empty
loop-found-preserved-then-is_empty c =
    let h = step_of _ _ _ _ c.step-token.ensures.steps c.in-Text.is in
    record {
      same = λ others. fold_run texts_reading [] (λ (v : Vec ℕ Global). v.items) c.loop-found.found.items _ _ _ _ _ _ _ (c.loop-found.invariant.same others) h
          (text_put _ _ _ _ c.step-token.result.at c.in_ok-bytes-in-Text.ensures.resolved (alone c.loop-found.found.items c.in_ok-bytes-in-Text.bytes.items _ _ c.is_empty.ensures c.if-is_empty.true (omega (arith, c.loop-found.found.ok.0))));
      less = omega (arith, ap length h, c.loop-found.invariant.less);
    }
