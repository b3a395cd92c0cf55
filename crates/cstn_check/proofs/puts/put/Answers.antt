use Rattle.std.proofs.Common.{refl, sym, ◌∙◌}
use Rattle.std.proofs.lemmas.Bool.{false≢true}
use Rattle.cstn_check.proofs.TurnLemmas.{put_nothing, put_last, put_cut}
use Rattle.cstn_check.specs.Steps.{is_refutation}
use Rattle.cstn_check.proofs.puts.put.Goals as goal

pub returns-then-covered-clause-taken : goal.returns-then-covered-clause-taken
returns-then-covered-clause-taken c =
    put_nothing _ c.args.log.now c.args.e c.requires.ready (c.covered.ensures.covered.0 c.if-covered.true)

pub returns-in_err-push-clause-cut : goal.returns-in_err-push-clause-cut
returns-in_err-push-clause-cut c = λ is.
    put_cut c.args.log.now c.push.new.self c.args.e
    (λ k. false≢true (sym c.if-covered.false ∙ c.covered.ensures.covered.1 k)) (c.in_err-push.ensures.full.0 refl)
    c.in_err-push.ensures.refused

pub returns-clause-taken : goal.returns-clause-taken
returns-clause-taken c =
    let p = c.in_ok-push.ensures.pushed refl in
    put_last _ c.args.log.now c.push.new.self c.args.e p.0 (is_refutation c.step_to.result) c.requires.ready
    (λ k. false≢true (sym c.if-covered.false ∙ c.covered.ensures.covered.1 k))
    (λ f. false≢true (c.in_ok-push.ensures.full.1 f)) p.1 c.step_to.ensures.refutes
