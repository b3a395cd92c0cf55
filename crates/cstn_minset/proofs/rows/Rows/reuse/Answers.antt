use Rattle.std.proofs.Common.{◌<◌, sym, ◌∙◌, subst, arith}
use Rattle.std.proofs.lemmas.Option.{slice_get_within}
use Rattle.cstn_minset.specs.Pages.{Paged, IsPageOf, most_pages}
use Rattle.cstn_minset.proofs.HomeLemmas.{page_of_in, pages_are_numbers, less_are_numbers, moved_to, table_set, rehomed}
use Rattle.cstn_minset.proofs.RowLemmas.{fit_full, behind_first}
use Rattle.cstn_minset.proofs.rows.Rows.reuse.Goals as goal

pub last_below-before-requires-clause-numbers : goal.last_below-before-requires-clause-numbers
last_below-before-requires-clause-numbers c =
    let free = subst (λ (v : Paged). IsPageOf v.pages v.heads c.args.number) (sym c.self.view_is) c.requires.free in
    (_, c.remove.ensures.linked _ _ c.args.number c.self.invariant.linked (page_of_in _ c.args.number _ _ free), less_are_numbers _ c.args.number (pages_are_numbers (most_pages c.self.inside.heads c.self.inside.capacity) c.self.inside.pages.items))

pub insert-requires-clause-slot : goal.insert-requires-clause-slot
insert-requires-clause-slot c =
    let free = subst (λ (v : Paged). IsPageOf v.pages v.heads c.args.number) (sym c.self.view_is) c.requires.free in
    let within = slice_get_within c.self.inside.pages.items c.args.number free.0 free.1 in
    omega (arith, within, c.self.invariant.few, c.self.invariant.slots, c.remove.ensures.size.0)

pub index_mut-requires : goal.index_mut-requires
index_mut-requires c =
    let free = subst (λ (v : Paged). IsPageOf v.pages v.heads c.args.number) (sym c.self.view_is) c.requires.free in
    let within = slice_get_within c.self.inside.pages.items c.args.number free.0 free.1 in
    omega (arith, within)

pub invariant_of-self : goal.invariant_of-self
invariant_of-self c =
    let back = sym c.self.view_is in
    let inv = c.self.invariant in
    let free = subst (λ (v : Paged). IsPageOf v.pages v.heads c.args.number) back c.requires.free in
    let row = subst (λ (v : Paged). c.args.page.head < v.heads) back c.requires.row in
    let within = slice_get_within c.self.inside.pages.items c.args.number free.0 free.1 in
    let linked = moved_to c.self.inside.links c.remove.new.self c.insert.new.self _ c.self.inside.heads c.args.page.head c.args.number c.last_below-before.result inv.linked (pages_are_numbers (most_pages c.self.inside.heads c.self.inside.capacity) c.self.inside.pages.items) (page_of_in _ c.args.number _ _ free) (omega (arith, row, inv.chains, c.remove.ensures.size.1)) (omega (arith, c.ranges.number.fits)) c.remove.ensures.linked c.insert.ensures.linked c.last_below-before.ensures.before in
    rehomed _ _ _ c.args.number _ _ c.insert.new.self free.0 c.args.page inv free.1 (behind_first _ _ _ inv.own free)
    (c.insert.ensures.size.0 ∙ c.remove.ensures.size.0, c.insert.ensures.size.1 ∙ c.remove.ensures.size.1)
    (rw (table_set (most_pages c.self.inside.heads c.self.inside.capacity) c.args.number c.self.inside.pages.items c.args.page within) linked)
    (fit_full _ _ _ row c.requires.full c.requires.is)
