use Rattle.std.proofs.Common.{◌≡◌, sym, subst, IfOk, IfErr}
use Rattle.std.proofs.lemmas.Result.{IfOk-weaker}
use Rattle.cstn_closed.specs.Closed.{the_listed_bounds}
use Rattle.cstn_closed.specs.Read.{IsWrongBoundLine}
use Rattle.cstn_closed.specs.Texts.{closed_told, tells, bound_lines}
use Rattle.cstn_closed.proofs.PrintLemmas.{are_named, fits_text}
use Rattle.cstn_closed.proofs.SaidLemmas.{told_first, first_wrong, text_said}
use Rattle.cstn_closed.proofs.lists.Closed.read.Goals as goal

pub returns-in_default-clause-line : goal.returns-in_default-clause-line
returns-in_default-clause-line c = first_wrong (bound_lines c.args.names.now) c.args.bytes.now (sym c.in_default.ensures.start)

pub returns-clause-accepted : goal.returns-clause-accepted
returns-clause-accepted c =
    let first = told_first (bound_lines c.args.names.now) c.args.bytes.now c.in-Some.load c.in-Some.rest.now (sym c.in-Some.ensures.start) in
    subst (λ t. IfOk c.read_bounds.result (λ r. t ≡ tells r.load (the_listed_bounds r))) (sym first) c.read_bounds.ensures.accepted

pub returns-clause-line : goal.returns-clause-line
returns-clause-line c =
    let first = told_first (bound_lines c.args.names.now) c.args.bytes.now c.in-Some.load c.in-Some.rest.now (sym c.in-Some.ensures.start) in
    subst (λ t. IfErr c.read_bounds.result (IsWrongBoundLine t)) (sym first) c.read_bounds.ensures.line

pub returns-clause-named : goal.returns-clause-named
returns-clause-named c =
    IfOk-weaker c.read_bounds.result (λ r. closed_told c.args.names.now c.args.bytes.now ≡ tells r.load (the_listed_bounds r)) _
    (λ r says. are_named c.args.names.now r.bounds (text_said c.args.names.now c.args.bytes.now r.load (the_listed_bounds r) says).each) (returns-clause-accepted c)

pub returns-clause-fits : goal.returns-clause-fits
returns-clause-fits c =
    IfOk-weaker c.read_bounds.result (λ r. closed_told c.args.names.now c.args.bytes.now ≡ tells r.load (the_listed_bounds r)) _
    (λ r says. fits_text c.args.names.now r (text_said c.args.names.now c.args.bytes.now r.load (the_listed_bounds r) says)) (returns-clause-accepted c)
