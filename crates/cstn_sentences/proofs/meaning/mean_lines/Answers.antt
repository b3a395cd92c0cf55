use Rattle.std.proofs.Common.{ap, sym, ◌∙◌, subst, arith, []}
use Rattle.std.specs.List.{list_all}
use Rattle.std.proofs.lemmas.Bool.{and_parts}
use Rattle.std.proofs.lemmas.Result.{err_from_is_err_and}
use Rattle.cstn_text.specs.Parts.{parts_at}
use Rattle.cstn_sentences.specs.Answers.{FailsPlan}
use Rattle.cstn_sentences.specs.Drawn.{kept_meant}
use Rattle.cstn_sentences.specs.Meaning.{meant_after, nothing_meant}
use Rattle.cstn_sentences.specs.SeenDeclared.{the_declared}
use Rattle.cstn_sentences.specs.SeenMeaning.{the_meaning}
use Rattle.cstn_sentences.specs.Words.{plan_lines, cut_lines, is_of_words}
use Rattle.cstn_sentences.proofs.KeptMeanings.{lines_on, fails_all, ends_all}
use Rattle.cstn_sentences.proofs.TellsLemmas.{first_line, last_line, meant_fails, meant_last}
use Rattle.cstn_sentences.proofs.meaning.mean_lines.Goals as goal

pub returns-in_err-mean_text-clause-refused : goal.returns-in_err-mean_text-clause-refused
returns-in_err-mean_text-clause-refused c =
    let n = c.loop-line.n in
    let d = the_declared c.args.d.now in
    let m = the_meaning c.loop-line.m in
    let left = c.loop-line.left.now in
    let line = c.in-Some.line.now in
    let rest = c.in-Some.rest.now in
    let error = c.in_err-mean_text.field-0.0 in
    let told = err_from_is_err_and c.from_residual.result c.from_residual.ensures.1 in
    rw (told.1, told.2) (fails_all error (meant_after 1 d nothing_meant (plan_lines c.args.text.now)) (meant_after n d m (cut_lines (parts_at 10 left))) c.loop-line.invariant.0
    (subst (λ ls. FailsPlan error (meant_after n d m ls)) (sym (first_line left line rest c.in-Some.ensures.parts)) (meant_fails n d m line (cut_lines (parts_at 10 rest)) error c.in_err-mean_text.ensures)))

pub loop-line-preserved : goal.loop-line-preserved
loop-line-preserved c =
    let n = c.loop-line.n in
    let d = the_declared c.args.d.now in
    let m = the_meaning c.loop-line.m in
    let left = c.loop-line.left.now in
    let line = c.in-Some.line.now in
    let rest = c.in-Some.rest.now in (
      c.loop-line.invariant.0 ∙ ap (λ ls. kept_meant (meant_after n d m ls)) (first_line left line rest c.in-Some.ensures.parts)
          ∙ lines_on n d m (the_meaning c.mean_text.new.m) (the_meaning c.keep.new.m) line (cut_lines (parts_at 10 rest)) c.in_ok-mean_text.ensures c.keep.ensures,
      omega (arith, c.loop-line.invariant.1, c.in-Some.ensures.shorter),
      (and_parts (is_of_words line) (list_all is_of_words (cut_lines (parts_at 10 rest))) (sym (ap (list_all is_of_words) (first_line left line rest c.in-Some.ensures.parts)) ∙ c.loop-line.invariant.2)).1,
    )

pub returns-in_err-mean_text-2-clause-refused : goal.returns-in_err-mean_text-2-clause-refused
returns-in_err-mean_text-2-clause-refused c =
    let n = c.loop-line.n in
    let d = the_declared c.args.d.now in
    let m = the_meaning c.loop-line.m in
    let left = c.loop-line.left.now in
    let error = c.in_err-mean_text-2.field-0.0 in
    let told = err_from_is_err_and c.from_residual-in_err-mean_text-2.result c.from_residual-in_err-mean_text-2.ensures.1 in
    rw (told.1, told.2) (fails_all error (meant_after 1 d nothing_meant (plan_lines c.args.text.now)) (meant_after n d m (cut_lines (parts_at 10 left))) c.loop-line.invariant.0
    (subst (λ ls. FailsPlan error (meant_after n d m ls)) (sym (last_line left c.in_default.ensures.whole)) (meant_fails n d m left [] error c.in_err-mean_text-2.ensures)))

pub returns-clause-meant : goal.returns-clause-meant
returns-clause-meant c =
    let n = c.loop-line.n in
    let d = the_declared c.args.d.now in
    let m = the_meaning c.loop-line.m in
    let left = c.loop-line.left.now in
    ends_all (meant_after 1 d nothing_meant (plan_lines c.args.text.now)) (meant_after n d m (cut_lines (parts_at 10 left))) (the_meaning c.mean_text-2.new.m) c.loop-line.invariant.0
    (ap (meant_after n d m) (last_line left c.in_default.ensures.whole) ∙ meant_last n d m (the_meaning c.mean_text-2.new.m) left c.in_ok-mean_text-2.ensures)
