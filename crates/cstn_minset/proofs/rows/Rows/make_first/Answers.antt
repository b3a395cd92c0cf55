use Rattle.std.proofs.Common.{◌≡◌, ◌≢◌, ◌<◌, ◌≤◌, [], sym, ◌∙◌, subst, arith}
use Rattle.std.specs.Prelude.{Some, slice_get, slice_set, IsPermutation}
use Rattle.std.proofs.lemmas.List.Sorted.{IsPermutation-refl, IsPermutation-trans, IsPermutation-append_comm}
use Rattle.std.proofs.lemmas.Option.{slice_get_within}
use Rattle.cstn_minset.specs.declared.page.Page.{Page}
use Rattle.cstn_minset.specs.Pages.{Paged, IsPageOf, on_page, held_records, most_pages, IsInOrder}
use Rattle.cstn_minset.proofs.HeldLemmas.{got_set, got_other, held_less, held_more, none_on}
use Rattle.cstn_minset.proofs.HomeLemmas.{page_of_in, pages_are_numbers, less_are_numbers, moved_to, table_set, changed, rehomed}
use Rattle.cstn_minset.proofs.RowLemmas.{read_page, at_all, fit_none, fit_first}
use Rattle.cstn_minset.proofs.rows.Rows.make_first.Goals as goal

pub last_below-before-requires-clause-numbers : goal.last_below-before-requires-clause-numbers
last_below-before-requires-clause-numbers c =
    let there = subst (λ (v : Paged). IsPageOf v.pages c.args.first c.args.page) (sym c.self.view_is) c.requires.page in
    (_, c.remove.ensures.linked _ _ c.args.page c.self.invariant.linked (page_of_in _ c.args.page _ _ there), less_are_numbers _ c.args.page (pages_are_numbers (most_pages c.self.inside.heads c.self.inside.capacity) c.self.inside.pages.items))

pub insert-requires-clause-slot : goal.insert-requires-clause-slot
insert-requires-clause-slot c =
    let there = subst (λ (v : Paged). IsPageOf v.pages c.args.first c.args.page) (sym c.self.view_is) c.requires.page in
    let within = slice_get_within c.self.inside.pages.items c.args.page there.0 there.1 in
    omega (arith, within, c.self.invariant.few, c.self.invariant.slots, c.remove.ensures.size.0)

pub index_mut-requires : goal.index_mut-requires
index_mut-requires c =
    let there = subst (λ (v : Paged). IsPageOf v.pages c.args.first c.args.page) (sym c.self.view_is) c.requires.page in
    let within = slice_get_within c.self.inside.pages.items c.args.page there.0 there.1 in
    omega (arith, within)

pub index_mut-requires-2 : goal.index_mut-requires-2
index_mut-requires-2 c =
    let row = subst (λ (v : Paged). c.args.first < v.heads) (sym c.self.view_is) c.requires.row in
    let own = c.self.invariant.own c.args.first row in
    let within = slice_get_within c.self.inside.pages.items c.args.first own.0 own.1 in
    omega (arith, within)

pub invariant_of-self : goal.invariant_of-self
invariant_of-self c =
    let back = sym c.self.view_is in
    let inv = c.self.invariant in
    let behind = subst (λ (v : Paged). v.heads ≤ c.args.page) back c.requires.behind in
    let row = subst (λ (v : Paged). c.args.first < v.heads) back c.requires.row in
    let there = subst (λ (v : Paged). IsPageOf v.pages c.args.first c.args.page) back c.requires.page in
    let own = inv.own c.args.first row in
    let read = read_page c.self.inside.pages.items c.args.page there.0 c.index_mut.result.now there.1 c.index_mut.ensures.value in
    let full : c.replace-full.result ≡ there.0 = c.replace-full.ensures.value ∙ read in
    let none : c.replace-full.new.dest ≡ c.empty-none.result = c.replace-full.ensures.after in
    let within = slice_get_within c.self.inside.pages.items c.args.page there.0 there.1 in
    let other : c.args.page ≢ c.args.first = λ same. omega (arith, same, row, behind) in
    let moved = moved_to c.self.inside.links c.remove.new.self c.insert.new.self _ c.args.first c.self.inside.heads c.args.page c.last_below-before.result inv.linked (pages_are_numbers (most_pages c.self.inside.heads c.self.inside.capacity) c.self.inside.pages.items) (page_of_in (most_pages c.self.inside.heads c.self.inside.capacity) c.args.page c.self.inside.pages.items c.args.first there) (omega (arith, inv.chains, c.remove.ensures.size.1)) (omega (arith, c.ranges.page.fits)) c.remove.ensures.linked c.insert.ensures.linked c.last_below-before.ensures.before in
    let step = rehomed c.self.inside.heads c.self.inside.capacity _ c.args.page c.self.inside.pages.items c.self.inside.links c.insert.new.self there.0 c.empty-none.result inv there.1 behind
    (c.insert.ensures.size.0 ∙ c.remove.ensures.size.0, c.insert.ensures.size.1 ∙ c.remove.ensures.size.1)
    (rw (table_set (most_pages c.self.inside.heads c.self.inside.capacity) c.args.page c.self.inside.pages.items c.empty-none.result within, c.empty-none.ensures.head) moved)
    (fit_none c.self.inside.heads c.args.page c.empty-none.result c.empty-none.ensures.head c.empty-none.ensures.empty c.empty-none.ensures.page) in
    rw (none, full) (changed c.self.inside.heads c.self.inside.capacity _ c.args.first (slice_set c.self.inside.pages.items c.args.page c.empty-none.result) c.insert.new.self own.0 there.0 step (got_other c.self.inside.pages.items c.args.page c.args.first c.empty-none.result other ∙ own.1) (there.2 ∙ sym own.2)
    (fit_first c.self.inside.heads c.args.first there.0 row (at_all (IsInOrder c.self.inside.heads) c.self.inside.pages.items c.args.page there.0 inv.order there.1)))

pub returns-clause-made : goal.returns-clause-made
returns-clause-made c = λ p is.
    let back = sym c.self.view_is in
    let behind = subst (λ (v : Paged). v.heads ≤ c.args.page) back c.requires.behind in
    let row = subst (λ (v : Paged). c.args.first < v.heads) back c.requires.row in
    let there = subst (λ (v : Paged). slice_get v.pages c.args.page ≡ Some p) back is in
    let own = c.self.invariant.own c.args.first row in
    let full : c.replace-full.result ≡ p = c.replace-full.ensures.value ∙ read_page c.self.inside.pages.items c.args.page p c.index_mut.result.now there c.index_mut.ensures.value in
    let other : c.args.page ≢ c.args.first = λ same. omega (arith, same, row, behind) in
    rw full (got_set (slice_set c.self.inside.pages.items c.args.page c.replace-full.new.dest) c.args.first p own.0 (got_other c.self.inside.pages.items c.args.page c.args.first c.replace-full.new.dest other ∙ own.1))

pub returns-clause-same : goal.returns-clause-same
returns-clause-same c =
    let back = sym c.self.view_is in
    let behind = subst (λ (v : Paged). v.heads ≤ c.args.page) back c.requires.behind in
    let row = subst (λ (v : Paged). c.args.first < v.heads) back c.requires.row in
    let there = subst (λ (v : Paged). IsPageOf v.pages c.args.first c.args.page) back c.requires.page in
    let empty = subst (λ (v : Paged). (p : Page) → slice_get v.pages c.args.first ≡ Some p → p.records.items ≡ []) back c.requires.empty in
    let own = c.self.invariant.own c.args.first row in
    let read = read_page c.self.inside.pages.items c.args.page there.0 c.index_mut.result.now there.1 c.index_mut.ensures.value in
    let full : c.replace-full.result ≡ there.0 = c.replace-full.ensures.value ∙ read in
    let none : c.replace-full.new.dest ≡ c.empty-none.result = c.replace-full.ensures.after in
    let other : c.args.page ≢ c.args.first = λ same. omega (arith, same, row, behind) in
    let less = held_less c.self.inside.pages.items c.args.page there.0 c.empty-none.result (on_page there.0) there.1 (rw (none_on c.empty-none.result c.empty-none.ensures.empty) (IsPermutation-refl (on_page there.0))) in
    let more = held_more (slice_set c.self.inside.pages.items c.args.page c.empty-none.result) c.args.first own.0 there.0 (got_other c.self.inside.pages.items c.args.page c.args.first c.empty-none.result other ∙ own.1) (none_on own.0 (empty own.0 own.1)) in
    rw (none, full) (subst (λ (v : Paged). IsPermutation (held_records v.pages) (held_records (slice_set (slice_set c.self.inside.pages.items c.args.page c.empty-none.result) c.args.first there.0))) c.self.view_is
    (IsPermutation-trans _ _ _ less (IsPermutation-trans _ _ _ (IsPermutation-append_comm (held_records (slice_set c.self.inside.pages.items c.args.page c.empty-none.result)) (on_page there.0)) more)))
