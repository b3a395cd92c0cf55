use Rattle.std.proofs.Common.{◌≡◌, true, subst}
use Rattle.std.specs.Prelude.{◌↔◌}
use Rattle.cstn_label.specs.Read.{marks}
use Rattle.cstn_label.specs.Words.{has_bit}
use Rattle.cstn_minset.specs.Sheets.{Marks, IsOutside}
use Rattle.cstn_minset.proofs.SheetLemmas.{sheet_of, outside_from_all, all_from_outside}
use Rattle.cstn_minset.proofs.sheet.Sheet.above.Goals as goal

pub returns : goal.returns
returns c = λ i.
    let sheet = sheet_of c.self.inside.positive c.self.inside.negative in
    let label = c.args.label in
    let first = c.in_all-left.ensures i in
    let second = c.in_all.ensures i in
    subst (λ (v : Marks). has_bit c.in_all.result i ≡ true ↔ ((has_bit c.args.front i ≡ true) × IsOutside v i (marks label))) c.self.view_is (
      λ set.
          let both = second.0 set in
          let one = first.0 both.0 in
          (one.0, outside_from_all sheet label c.words-positive.result.0 c.words-positive.result.1 c.words-positive.ensures.words i one.1 both.1),
      λ both.
          let all = all_from_outside sheet label c.words-positive.result.0 c.words-positive.result.1 c.words-positive.ensures.words i c.labels_are_their_marks.ensures.above both.1 in
          second.1 (first.1 (both.0, all.0), all.1),
    )
