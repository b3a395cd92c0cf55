use Rattle.std.proofs.Common.{ℕ, List, ◌≡◌, length, arith, sym, subst, ap, ◌∙◌}
use Rattle.std.proofs.lemmas.Result.{IfOk-weaker, IfErr-weaker}
use Rattle.cstn_text.specs.Parts.{parts_at}
use Rattle.cstn_text.specs.Listings.{at_end, told_after}
use Rattle.cstn_outline.specs.Trees.{TreeLine}
use Rattle.cstn_outline.specs.Texts.{TreeTold, tells, without_load, tree_lines, is_whole}
use Rattle.cstn_outline.specs.Reading.{the_lines, IsWrongTreeLine}
use Rattle.cstn_outline.proofs.ReadLemmas.{told_cut}
use Rattle.cstn_outline.proofs.SaidLemmas.{told_last}
use Rattle.cstn_outline.proofs.reading.read_lines.Goals as goal

pub loop-line-init : goal.loop-line-init
loop-line-init c =
    let names = c.args.names.now in
    let texts = (parts_at 10 c.args.bytes.now).0 in
    let tail = (parts_at 10 c.args.bytes.now).1 in
    record {
      told = λ load. ap (λ (ls : List TreeLine). told_after (tree_lines names) load ls texts tail) c.in-Ok.ensures.lines;
      reader = c.in-Ok.ensures.reader (length names);
      count = let none = c.in-Ok.ensures.count in omega arith;
    }

pub loop-line-preserved : goal.loop-line-preserved
loop-line-preserved c =
    let names = c.args.names.now in
    let old = c.loop-line.reader in
    let rest = c.in-Some.rest.now in
    let shorter = c.in-Some.ensures.shorter in
    record {
      told = λ load.
          sym (told_cut names load (the_lines old) c.loop-line.left.now c.in-Some.line.now rest (sym c.in-Some.ensures.cut)
          ∙ c.in-Ok-take.ensures.next load (parts_at 10 rest).0 (parts_at 10 rest).1) ∙ c.loop-line.invariant.told load;
      reader = c.in-Ok-take.ensures.reader;
      count = let more = c.in-Ok-take.ensures.count in let before = c.loop-line.invariant.count in omega arith;
    }

pub returns-in-Err-take-clause-line : goal.returns-in-Err-take-clause-line
returns-in-Err-take-clause-line c = λ load.
    let names = c.args.names.now in
    let old = c.loop-line.reader in
    let rest = c.in-Some.rest.now in
    subst (λ (t : TreeTold). IsWrongTreeLine t c.in-Err-take.e)
    (ap without_load (sym (told_cut names load (the_lines old) c.loop-line.left.now c.in-Some.line.now rest (sym c.in-Some.ensures.cut)) ∙ c.loop-line.invariant.told load))
    (c.in-Err-take.ensures.wrong load (parts_at 10 rest).0 (parts_at 10 rest).1)

pub returns-clause-accepted : goal.returns-clause-accepted
returns-clause-accepted c =
    let last = λ (load : ℕ). told_last (tree_lines c.args.names.now) load (the_lines c.loop-line.reader) c.loop-line.left.now (sym c.in_default.ensures.cut) in
    IfOk-weaker c.finish.result (λ t. (load : ℕ) → without_load (at_end is_whole load (the_lines c.loop-line.reader) c.loop-line.left.now) ≡ tells t) _
    (λ t says load. ap without_load (sym (c.loop-line.invariant.told load) ∙ last load) ∙ says load) c.finish.ensures.accepted

pub returns-clause-line : goal.returns-clause-line
returns-clause-line c =
    let last = λ (load : ℕ). told_last (tree_lines c.args.names.now) load (the_lines c.loop-line.reader) c.loop-line.left.now (sym c.in_default.ensures.cut) in
    IfErr-weaker c.finish.result (λ e. (load : ℕ) → IsWrongTreeLine (without_load (at_end is_whole load (the_lines c.loop-line.reader) c.loop-line.left.now)) e) _
    (λ e is load. subst (λ (t : TreeTold). IsWrongTreeLine t e) (ap without_load (sym (last load) ∙ c.loop-line.invariant.told load)) (is load)) c.finish.ensures.line
