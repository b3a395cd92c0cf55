use Rattle.std.proofs.Common.{ℕ, ◌≡◌, ◌<◌, length, get_or, set, sym, subst, arith}
use Rattle.std.specs.Prelude.{None, Some}
use Rattle.cstn_pool.specs.Slots.{padded}
use Rattle.cstn_minset.specs.Links.{AreLinks}
use Rattle.cstn_minset.specs.Pages.{Paged, homes, most_pages}
use Rattle.cstn_minset.proofs.HomeLemmas.{pages_are_numbers, inserted_at, table_push, past_table, pushed}
use Rattle.cstn_minset.proofs.RowLemmas.{fit_full}
use Rattle.cstn_minset.proofs.rows.Rows.append.Goals as goal

pub last_below-before-requires-clause-numbers : goal.last_below-before-requires-clause-numbers
last_below-before-requires-clause-numbers c = (_, c.self.invariant.linked, pages_are_numbers (most_pages c.self.inside.heads c.self.inside.capacity) c.self.inside.pages.items)

pub invariant_of-self : goal.invariant_of-self
invariant_of-self c =
    let back = sym c.self.view_is in
    let inv = c.self.invariant in
    let few = subst (λ (v : Paged). length v.pages < most_pages v.heads v.capacity) back c.requires.few in
    let row = subst (λ (v : Paged). c.args.page.head < v.heads) back c.requires.row in
    let number : c.len-number.result ≡ length c.self.inside.pages.items = omega (arith, c.len-number.ensures) in
    let free = subst (λ (n : ℕ). get_or (padded None (most_pages c.self.inside.heads c.self.inside.capacity) (homes 0 c.self.inside.pages.items)) n None ≡ None) (sym number) (past_table (most_pages c.self.inside.heads c.self.inside.capacity) c.self.inside.pages.items) in
    let linked = inserted_at c.self.inside.links c.insert.new.self _ c.args.page.head c.len-number.result c.last_below-before.result inv.linked (pages_are_numbers (most_pages c.self.inside.heads c.self.inside.capacity) c.self.inside.pages.items) (omega (arith, row, inv.chains)) (omega (arith, number, few, inv.slots, inv.linked.small)) free c.insert.ensures.linked c.last_below-before.ensures.before in
    let placed = subst (λ (n : ℕ). AreLinks c.insert.new.self (set (padded None (most_pages c.self.inside.heads c.self.inside.capacity) (homes 0 c.self.inside.pages.items)) n (Some (c.args.page.head, n)))) number linked in
    rw c.push_reserved.ensures.items (pushed c.self.inside.heads c.self.inside.capacity _ _ c.self.inside.pages.items c.self.inside.links c.insert.new.self c.args.page inv few (omega (arith, c.push_reserved.ensures.capacity)) c.insert.ensures.size
    (rw (table_push (most_pages c.self.inside.heads c.self.inside.capacity) c.self.inside.pages.items c.args.page few) placed) (fit_full _ _ _ row c.requires.full c.requires.is) row)
