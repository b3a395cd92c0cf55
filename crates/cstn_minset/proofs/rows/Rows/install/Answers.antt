use Rattle.std.proofs.Common.{◌<◌, ◌≤◌, ◌++◌, length, ap, sym, ◌∙◌, subst, arith}
use Rattle.std.specs.Prelude.{Some, slice_set, IsPermutation}
use Rattle.std.proofs.lemmas.Option.{same_Some}
use Rattle.cstn_minset.specs.Pages.{Paged, IsPageOf, on_page, held_records, most_pages, IsInOrder}
use Rattle.cstn_minset.proofs.HeldLemmas.{got_set, got_other, held_more, held_push, none_on}
use Rattle.cstn_minset.proofs.HomeLemmas.{first_page, got_before, got_pushed}
use Rattle.cstn_minset.proofs.RowLemmas.{at_all, page_left}
use Rattle.cstn_minset.proofs.rows.Rows.install.Goals as goal

pub reuse-requires-clause-free : goal.reuse-requires-clause-free
reuse-requires-clause-free c =
    subst (λ (v : Paged). IsPageOf v.pages v.heads c.in-Some.number) c.self.view_is (first_page (most_pages c.self.inside.heads c.self.inside.capacity) c.self.inside.heads 0 c.self.inside.pages.items (Some c.in-Some.number) (c.in-Some.ensures _ c.self.invariant.linked))

pub append-requires-clause-few : goal.append-requires-clause-few
append-requires-clause-few c =
    let room = subst (λ (v : Paged). length (held_records v.pages) ≤ v.capacity) (sym c.self.view_is) c.requires.room in
    subst (λ (v : Paged). length v.pages < most_pages v.heads v.capacity) c.self.view_is (page_left _ _ _ c.self.inside.pages.items _ c.self.invariant (c.in-None.ensures _ c.self.invariant.linked) room)

pub returns-in-Some-clause-there : goal.returns-in-Some-clause-there
returns-in-Some-clause-there c =
    let free = subst (λ (v : Paged). IsPageOf v.pages v.heads c.in-Some.number) c.self.view_is (first_page (most_pages c.self.inside.heads c.self.inside.capacity) c.self.inside.heads 0 c.self.inside.pages.items (Some c.in-Some.number) (c.in-Some.ensures _ c.self.invariant.linked)) in
    rw c.reuse.ensures (got_set c.args.self.now.pages c.in-Some.number c.args.page free.0 free.1)

pub returns-in-Some-clause-kept : goal.returns-in-Some-clause-kept
returns-in-Some-clause-kept c = λ k p is row.
    let free = subst (λ (v : Paged). IsPageOf v.pages v.heads c.in-Some.number) c.self.view_is (first_page (most_pages c.self.inside.heads c.self.inside.capacity) c.self.inside.heads 0 c.self.inside.pages.items (Some c.in-Some.number) (c.in-Some.ensures _ c.self.invariant.linked)) in
    rw c.reuse.ensures (got_other c.args.self.now.pages c.in-Some.number k c.args.page
    (λ same. let it = same_Some free.0 p (sym free.1 ∙ rw (← same) at is) in omega (arith, row, free.2, ap (λ x. x.head) it)) ∙ is)

pub returns-in-Some-clause-same : goal.returns-in-Some-clause-same
returns-in-Some-clause-same c =
    let free = first_page (most_pages c.self.inside.heads c.self.inside.capacity) c.self.inside.heads 0 c.self.inside.pages.items (Some c.in-Some.number) (c.in-Some.ensures _ c.self.invariant.linked) in
    let order = at_all (IsInOrder c.self.inside.heads) c.self.inside.pages.items c.in-Some.number free.0 c.self.invariant.order free.1 in
    rw c.reuse.ensures (subst (λ (v : Paged). IsPermutation (on_page c.args.page ++ held_records v.pages) (held_records (slice_set v.pages c.in-Some.number c.args.page))) c.self.view_is
    (held_more c.self.inside.pages.items c.in-Some.number free.0 c.args.page free.1 (none_on free.0 (order.free free.2))))

pub returns-in-None-clause-there : goal.returns-in-None-clause-there
returns-in-None-clause-there c = rw (c.append.ensures.pages, c.append.ensures.number) (got_pushed c.args.self.now.pages c.args.page)

pub returns-in-None-clause-kept : goal.returns-in-None-clause-kept
returns-in-None-clause-kept c = λ k p is row. rw c.append.ensures.pages (got_before c.args.self.now.pages c.args.page p k is)

pub returns-in-None-clause-same : goal.returns-in-None-clause-same
returns-in-None-clause-same c = rw c.append.ensures.pages (held_push c.args.self.now.pages c.args.page)
