use Rattle.std.proofs.Common.{◌≡◌, true, sym, subst}
use Rattle.std.specs.Prelude.{◌↔◌}
use Rattle.cstn_label.specs.Read.{marks}
use Rattle.cstn_label.specs.Words.{has_bit}
use Rattle.cstn_minset.specs.Sheets.{Marks, IsInsideLabel}
use Rattle.cstn_minset.proofs.SheetLemmas.{sheet_of, inside_from_none, none_from_inside}
use Rattle.cstn_minset.proofs.sheet.Sheet.within.Goals as goal

pub returns : goal.returns
returns c = λ i.
    let sheet = sheet_of c.self.inside.positive c.self.inside.negative in
    let used = c.args.used in
    let label = c.args.label in
    let inside = subst (λ (v : Marks). IsInsideLabel v i (marks used)) (sym c.self.view_is) (c.requires.used i) in
    let first = c.in_none-left.ensures i in
    let second = c.in_none.ensures i in
    subst (λ (v : Marks). has_bit c.in_none.result i ≡ true ↔ ((has_bit c.args.front i ≡ true) × IsInsideLabel v i (marks label))) c.self.view_is (
      λ set.
          let both = second.0 set in
          let one = first.0 both.0 in (
            one.0,
            inside_from_none sheet used label c.words-used_positive.result.0 c.words-used_positive.result.1 c.words-positive.result.0 c.words-positive.result.1
                c.words-used_positive.ensures.words c.words-positive.ensures.words i inside c.bits_without.result c.bits_without-2.result c.bits_without.ensures c.bits_without-2.ensures one.1 both.1,
          ),
      λ both.
          let none = none_from_inside sheet used label c.words-used_positive.result.0 c.words-used_positive.result.1 c.words-positive.result.0 c.words-positive.result.1
          c.words-used_positive.ensures.words c.words-positive.ensures.words i inside c.bits_without.result c.bits_without-2.result c.bits_without.ensures c.bits_without-2.ensures
          c.labels_are_their_marks.ensures.above both.1 in
          second.1 (first.1 (both.0, none.0), none.1),
    )
