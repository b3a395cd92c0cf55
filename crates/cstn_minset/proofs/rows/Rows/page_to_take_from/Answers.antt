use Rattle.std.proofs.Common.{◌≡◌, inl, inr, ◌<◌, ◌∷◌, [], length, ap, sym, ◌∙◌, subst, arith, length-append}
use Rattle.std.specs.Prelude.{Some, slice_get}
use Rattle.std.proofs.lemmas.Option.{same_Some}
use Rattle.cstn_minset.specs.declared.page.Page.{Page}
use Rattle.cstn_minset.specs.Pages.{Paged, IsInOrder}
use Rattle.cstn_minset.proofs.RowLemmas.{got, read_page, at_all, of_row, none_from, some_from}
use Rattle.cstn_minset.proofs.rows.Rows.page_to_take_from.Goals as goal

pub make_first-requires-clause-empty : goal.make_first-requires-clause-empty
make_first-requires-clause-empty c = λ p is.
    let there = subst (λ (v : Paged). slice_get v.pages c.index-2.result.now.head ≡ Some p) (sym c.self.view_is) is in
    let read = read_page c.self.inside.pages.items c.index-2.result.now.head p c.index-3.result.now there c.index-3.ensures in
    rw read at (none_from c.index-3.result.now.records.items _ c.is_empty.ensures c.if-is_empty.true)

pub returns-then-is_empty-clause-spare : goal.returns-then-is_empty-clause-spare
returns-then-is_empty-clause-spare c = λ q is.
    let back = sym c.self.view_is in
    let old = got c.args.self.now.pages c.args.page c.requires.page in
    let there = subst (λ (v : Paged). slice_get v.pages c.args.page ≡ Some old.0) back old.1 in
    let read = read_page c.self.inside.pages.items c.args.page old.0 c.index-2.result.now there c.index-2.ensures in
    let row = of_row c.self.inside.heads 0 old.0 (at_all (IsInOrder c.self.inside.heads) c.self.inside.pages.items c.args.page old.0 c.self.invariant.order there) (c.requires.some old.0 old.1) in
    let row' = subst (λ (v : Paged). old.0.head < v.heads) c.self.view_is row in
    inl (omega (arith, ap (λ x. x.head) read, row', c.make_first.ensures.size.0))

pub refill-requires-clause-row : goal.refill-requires-clause-row
refill-requires-clause-row c =
    let back = sym c.self.view_is in
    let old = got c.args.self.now.pages c.args.page c.requires.page in
    let there = subst (λ (v : Paged). slice_get v.pages c.args.page ≡ Some old.0) back old.1 in
    let read = read_page c.self.inside.pages.items c.args.page old.0 c.index-2.result.now there c.index-2.ensures in
    let row = of_row c.self.inside.heads 0 old.0 (at_all (IsInOrder c.self.inside.heads) c.self.inside.pages.items c.args.page old.0 c.self.invariant.order there) (c.requires.some old.0 old.1) in
    let row' = subst (λ (v : Paged). old.0.head < v.heads) c.self.view_is row in
    omega (arith, ap (λ x. x.head) read, row')

pub refill-requires-clause-page : goal.refill-requires-clause-page
refill-requires-clause-page c =
    let back = sym c.self.view_is in
    let old = got c.args.self.now.pages c.args.page c.requires.page in
    let there = subst (λ (v : Paged). slice_get v.pages c.args.page ≡ Some old.0) back old.1 in
    let read = read_page c.self.inside.pages.items c.args.page old.0 c.index-2.result.now there c.index-2.ensures in
    let read' = read_page c.self.inside.pages.items c.args.page old.0 c.index.result.now there c.index.ensures in
    (old.0, old.1, sym (ap (λ x. x.head) read), omega (arith, c.if-len-gt-LEAST.false, c.len.ensures.value, ap (λ x. length x.records.items) read'))

pub refill-requires-clause-some : goal.refill-requires-clause-some
refill-requires-clause-some c = λ p is.
    let there = subst (λ (v : Paged). slice_get v.pages c.index-2.result.now.head ≡ Some p) (sym c.self.view_is) is in
    let read = read_page c.self.inside.pages.items c.index-2.result.now.head p c.index-3.result.now there c.index-3.ensures in
    rw read at (some_from c.index-3.result.now.records.items _ c.is_empty.ensures c.if-is_empty.false)

pub returns-clause-spare : goal.returns-clause-spare
returns-clause-spare c = λ q is.
    let back = sym c.self.view_is in
    let old = got c.args.self.now.pages c.args.page c.requires.page in
    let there = subst (λ (v : Paged). slice_get v.pages c.args.page ≡ Some old.0) back old.1 in
    let row = of_row c.self.inside.heads 0 old.0 (at_all (IsInOrder c.self.inside.heads) c.self.inside.pages.items c.args.page old.0 c.self.invariant.order there) (c.requires.some old.0 old.1) in
    let dense = c.self.invariant.dense c.args.page old.0 (omega (arith, c.if-page-self.false)) there row in
    let filled = c.refill.ensures.filled old.0 old.1 in
    let same = same_Some filled.0 q (sym filled.2 ∙ is) in
    inr (subst (λ (x : Page). 63 < length x.records.items) same (rw filled.4 (omega (arith, dense, length-append old.0.records.items (filled.1 ∷ [])))))
