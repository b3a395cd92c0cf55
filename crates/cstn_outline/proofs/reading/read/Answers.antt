use Rattle.std.proofs.Common.{◌≡◌, sym, subst, ap, ◌∙◌}
use Rattle.std.proofs.lemmas.Result.{IfOk-weaker, IfErr-weaker}
use Rattle.cstn_outline.specs.Texts.{TreeTold, tells, tree_told, without_load, tree_lines}
use Rattle.cstn_outline.specs.Written.{TreeFitsText}
use Rattle.cstn_outline.specs.Read.{the_tree}
use Rattle.cstn_outline.specs.Reading.{IsWrongTreeLine}
use Rattle.cstn_outline.proofs.SaidLemmas.{told_first, first_wrong, text_fits}
use Rattle.cstn_outline.proofs.reading.read.Goals as goal

pub returns-in_default-clause-line : goal.returns-in_default-clause-line
returns-in_default-clause-line c = ap without_load (first_wrong (tree_lines c.args.names.now) c.args.bytes.now (sym c.in_default.ensures.start))

pub returns-clause-accepted : goal.returns-clause-accepted
returns-clause-accepted c =
    let first = told_first (tree_lines c.args.names.now) c.args.bytes.now c.in-Some._load c.in-Some.rest.now (sym c.in-Some.ensures.start) in
    IfOk-weaker c.read_lines.result _ (λ t. tree_told c.args.names.now c.args.bytes.now ≡ tells t)
    (λ t says. ap without_load first ∙ says c.in-Some._load) c.read_lines.ensures.accepted

pub returns-clause-line : goal.returns-clause-line
returns-clause-line c =
    let first = told_first (tree_lines c.args.names.now) c.args.bytes.now c.in-Some._load c.in-Some.rest.now (sym c.in-Some.ensures.start) in
    IfErr-weaker c.read_lines.result _ (IsWrongTreeLine (tree_told c.args.names.now c.args.bytes.now))
    (λ e is. subst (λ (t : TreeTold). IsWrongTreeLine t e) (sym (ap without_load first)) (is c.in-Some._load)) c.read_lines.ensures.line

pub returns-clause-fits : goal.returns-clause-fits
returns-clause-fits c =
    IfOk-weaker c.read_lines.result (λ t. tree_told c.args.names.now c.args.bytes.now ≡ tells t) (λ t. TreeFitsText (the_tree t)) (text_fits c.args.names.now c.args.bytes.now)
    (returns-clause-accepted c)
