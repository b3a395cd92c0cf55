use Rattle.std.proofs.Common.{◌≡◌, bit_or, get_or, subst, ◌∙◌}
use Rattle.cstn_label.specs.Words.{has_bit}
use Rattle.cstn_label.specs.Marks.{is_marked}
use Rattle.cstn_label.proofs.WordLemmas.{has_bit_or}
use Rattle.cstn_minset.specs.Sheets.{Marks, mark_in}
use Rattle.cstn_minset.proofs.SheetLemmas.{either_marked}
use Rattle.cstn_minset.proofs.sheet.Sheet.marking.Goals as goal

pub returns : goal.returns
returns c = λ i.
    let y = get_or c.self.inside.positive c.args.p.index 0 in
    let n = get_or c.self.inside.negative c.args.p.index 0 in
    subst (λ (v : Marks). has_bit (bit_or y n) i ≡ is_marked (mark_in v c.args.p.index i)) c.self.view_is
    (has_bit_or y n i ∙ either_marked (has_bit y i) (has_bit n i))
