use Rattle.std.proofs.Common.{List, ◌<◌, ◌++◌, ◌∷◌, [], length, codes, ap, sym, subst, ◌∙◌}
use Rattle.std.specs.Char.{encode_utf8}
use Rattle.std.specs.Prelude.{string_bytes}
use Rattle.std.specs.List.{All}
use Rattle.cstn_text.specs.Numbers.{printed_number}
use Rattle.cstn_outline.specs.declared.trees.Line.{Line as ProgramLine}
use Rattle.cstn_outline.specs.Trees.{TreeLine, names_on}
use Rattle.cstn_outline.specs.Texts.{printed_line, tree_shown}
use Rattle.cstn_outline.specs.Read.{the_tree_line}
use Rattle.cstn_outline.proofs.PrintLemmas.{names_inside}
use Rattle.cstn_outline.specs.Written.{IsPrintableLine}
use Rattle.cstn_outline.proofs.BackLemmas.{said_back}
use Rattle.cstn_outline.proofs.PrintLemmas.{printed_more, pushed_twice, shown_whole, more_written, all_written}
use Rattle.cstn_outline.proofs.printing.print.Goals as goal

pub push_line-requires : goal.push_line-requires
push_line-requires c = record {
  named = names_inside (length c.args.names.now) c.lines-lines.result.now c.loop-k.k c.index-lines-k.result c.loop-k-test.true c.index-lines-k.is
      (subst (λ (l : List TreeLine). All (λ l. All (λ x. x < length c.args.names.now) (names_on l)) l) (sym (c.lines-lines.ensures.lines ∙ c.lines-lines.ensures.whole)) c.requires.named);
}

pub loop-k-preserved : goal.loop-k-preserved
unfolding encode_utf8
loop-k-preserved c =
    let names = c.args.names.now in
    record {
      shown =
          printed_more the_tree_line (λ l. printed_line names l ++ 10 ∷ []) c.lines-lines.result.now c.loop-k.k c.index-lines-k.result
          (codes "yes " ++ printed_number c.args.load ++ 10 ∷ []) (string_bytes c.loop-k.text) (string_bytes c.push.new.self) (printed_line names (the_tree_line c.index-lines-k.result) ++ 10 ∷ []) c.loop-k-test.true c.loop-k.invariant.shown
          (pushed_twice (string_bytes c.loop-k.text) (string_bytes c.push_line.new.text) (string_bytes c.push.new.self) (printed_line names (the_tree_line c.index-lines-k.result)) (10 ∷ []) c.in_ok-push_line.ensures.pushed c.in_ok-push.ensures.bytes)
          (ap (λ (l : ProgramLine). printed_line names (the_tree_line l) ++ 10 ∷ []) c.index-lines-k.is);
      written =
          more_written names c.lines-lines.result.now c.loop-k.k c.index-lines-k.result c.loop-k-test.true c.index-lines-k.is c.loop-k.invariant.written c.in_ok-push_line.ensures.written;
    }

pub returns-clause-shown : goal.returns-clause-shown
returns-clause-shown c =
    shown_whole c.args.names.now c.args.load c.lines-lines.result.now c.loop-k.k (string_bytes c.loop-k.text) c.loop-k-test.false c.loop-k.invariant.shown
    ∙ ap (tree_shown c.args.names.now c.args.load) c.lines-lines.ensures.lines

pub returns-clause-back : goal.returns-clause-back
returns-clause-back c = λ fits.
    let names = c.args.names.now in
    let lines = c.lines-lines.ensures.lines in
    let text =
    shown_whole names c.args.load c.lines-lines.result.now c.loop-k.k (string_bytes c.loop-k.text) c.loop-k-test.false c.loop-k.invariant.shown ∙ ap (tree_shown names c.args.load) lines in
    said_back names c.args.load c.args.tree.now (string_bytes c.loop-k.text) c.count.ensures.names c.requires.load.0 c.requires.load.1 c.lines-lines.ensures.whole fits
    (subst (λ (ls : List TreeLine). All (IsPrintableLine names) ls) lines (all_written names c.lines-lines.result.now c.loop-k.k c.loop-k-test.false c.loop-k.invariant.written)) text
