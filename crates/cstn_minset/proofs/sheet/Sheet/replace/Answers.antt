use Rattle.std.proofs.Common.{◌≡◌, get_or, sym, ap, subst}
use Rattle.cstn_label.specs.Read.{marks}
use Rattle.cstn_label.specs.Words.{has_bit}
use Rattle.cstn_minset.specs.Sheets.{Marks, mark_in}
use Rattle.cstn_minset.proofs.SheetLemmas.{mark_replaced}
use Rattle.cstn_minset.proofs.sheet.Sheet.replace.Goals as goal

pub returns-clause-after : goal.returns-clause-after
returns-clause-after c = λ p small.
    let i = c.args.i in
    let old_y = has_bit (get_or c.self.inside.positive p 0) i in
    let old_n = has_bit (get_or c.self.inside.negative p 0) i in
    let was = subst (λ (v : Marks). mark_in v p i ≡ marks c.args.before p) (sym c.self.view_is) (c.requires.before p small) in
    mark_replaced c.args.before c.args.after c.words-before_positive.result.0 c.words-before_positive.result.1 c.words-positive.result.0 c.words-positive.result.1
    c.bits_of_one.result c.bits_of_one-2.result c.words-before_positive.ensures.words c.words-positive.ensures.words c.bits_of_one.ensures c.bits_of_one-2.ensures
    p old_y old_n _ _ was (c.flip_all.ensures.flipped p) (λ out. ap (λ w. has_bit w i) (c.flip_all.ensures.kept p out))
    (c.flip_all-2.ensures.flipped p) (λ out. ap (λ w. has_bit w i) (c.flip_all-2.ensures.kept p out))
