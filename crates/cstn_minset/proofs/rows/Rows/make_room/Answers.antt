use Rattle.std.proofs.Common.{◌≡◌, ◌<◌, length, ap, sym, subst, arith}
use Rattle.std.specs.Prelude.{Some, slice_get}
use Rattle.cstn_minset.specs.Pages.{Paged}
use Rattle.cstn_minset.proofs.RowLemmas.{read_page}
use Rattle.cstn_minset.proofs.rows.Rows.make_room.Goals as goal

pub returns-else-len-eq-ROOM-clause-page : goal.returns-else-len-eq-ROOM-clause-page
returns-else-len-eq-ROOM-clause-page c =
    let row = subst (λ (v : Paged). c.args.head < v.heads) (sym c.self.view_is) c.requires.head in
    let own = c.self.invariant.own c.args.head row in
    let read = read_page c.self.inside.pages.items c.args.head own.0 c.index.result.now own.1 c.index.ensures in
    let there = subst (λ (v : Paged). slice_get v.pages c.args.head ≡ Some own.0) c.self.view_is own.1 in
    (own.0, there, own.2, omega (arith, c.if-len-eq-ROOM.false, c.len.ensures.value, c.len.ensures.few, ap (λ x. length x.records.items) read))
