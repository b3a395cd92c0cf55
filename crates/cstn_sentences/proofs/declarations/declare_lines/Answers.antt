use Rattle.std.proofs.Common.{ap, sym, ◌∙◌, subst, []}
use Rattle.std.proofs.lemmas.Result.{err_from_is_err_and}
use Rattle.cstn_sentences.specs.Answers.{FailsPlan}
use Rattle.cstn_sentences.specs.Declarations.{declared_after}
use Rattle.cstn_sentences.specs.SeenDeclared.{the_declared}
use Rattle.cstn_sentences.proofs.TellsLemmas.{last_line, declared_fails, declared_last}
use Rattle.cstn_sentences.proofs.declarations.declare_lines.Goals as goal

pub returns-in_err-declare_text-2 : goal.returns-in_err-declare_text-2
returns-in_err-declare_text-2 c =
    let n = c.loop-line.n in
    let d = the_declared c.loop-line.d in
    let left = c.loop-line.left.now in
    let error = c.in_err-declare_text-2.field-0.0 in
    let told = err_from_is_err_and c.from_residual-in_err-declare_text-2.result c.from_residual-in_err-declare_text-2.ensures.1 in
    let all = c.loop-line.invariant.0 ∙ ap (declared_after n d) (last_line left c.in_default.ensures.whole) in
    rw (told.1, told.2) (subst (FailsPlan error) (sym all) (declared_fails n d left [] error c.in_err-declare_text-2.ensures))

pub returns : goal.returns
returns c =
    let n = c.loop-line.n in
    let d = the_declared c.loop-line.d in
    let left = c.loop-line.left.now in
    c.loop-line.invariant.0 ∙ ap (declared_after n d) (last_line left c.in_default.ensures.whole)
    ∙ declared_last n d (the_declared c.declare_text-2.new.d) left c.in_ok-declare_text-2.ensures
