use Rattle.std.proofs.Common.{◌≡◌, sym, subst, IfOk, IfErr}
use Rattle.cstn_refute.specs.Refutations.{the_steps}
use Rattle.cstn_refute.specs.Read.{IsWrongStepLine}
use Rattle.std.proofs.lemmas.Result.{IfOk-weaker}
use Rattle.cstn_refute.specs.Texts.{refutation_told, tells, step_lines}
use Rattle.cstn_refute.specs.Written.{AreStepsWritten}
use Rattle.cstn_refute.proofs.OrderLemmas.{told_first, first_wrong, text_said}
use Rattle.cstn_refute.proofs.WrittenLemmas.{are_named}
use Rattle.cstn_refute.proofs.refutations.Refutation.read.Goals as goal

pub returns-in_default-clause-line : goal.returns-in_default-clause-line
returns-in_default-clause-line c = first_wrong (step_lines c.args.names.now) c.args.bytes.now (sym c.in_default.ensures.start)

pub returns-clause-accepted : goal.returns-clause-accepted
returns-clause-accepted c =
    let first = told_first (step_lines c.args.names.now) c.args.bytes.now c.in-Some.load c.in-Some.rest.now (sym c.in-Some.ensures.start) in
    subst (λ t. IfOk c.read_steps.result (λ r. t ≡ tells r.load (the_steps r))) (sym first) c.read_steps.ensures.accepted

pub returns-clause-line : goal.returns-clause-line
returns-clause-line c =
    let first = told_first (step_lines c.args.names.now) c.args.bytes.now c.in-Some.load c.in-Some.rest.now (sym c.in-Some.ensures.start) in
    subst (λ t. IfErr c.read_steps.result (IsWrongStepLine t)) (sym first) c.read_steps.ensures.line

pub returns-clause-ranges : goal.returns-clause-ranges
returns-clause-ranges c =
    IfOk-weaker c.read_steps.result (λ r. refutation_told c.args.names.now c.args.bytes.now ≡ tells r.load (the_steps r)) (λ r. AreStepsWritten c.args.names.now r.load (the_steps r))
    (λ r says. text_said c.args.names.now c.args.bytes.now r.load (the_steps r) says) (returns-clause-accepted c)

pub returns-clause-named : goal.returns-clause-named
returns-clause-named c =
    IfOk-weaker c.read_steps.result (λ r. AreStepsWritten c.args.names.now r.load (the_steps r)) _
    (λ r written. are_named c.args.names.now r.steps written.each) (returns-clause-ranges c)
