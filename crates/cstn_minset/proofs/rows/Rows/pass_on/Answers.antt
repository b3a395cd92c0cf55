use Rattle.std.proofs.Common.{◌≡◌, ◌<◌, ◌++◌, [], length, ap, sym, ◌∙◌, subst, arith, length-append}
use Rattle.std.specs.Prelude.{Some, slice_get, slice_set, IsPermutation}
use Rattle.std.proofs.lemmas.List.Sorted.{IsPermutation-refl, IsPermutation-trans, IsPermutation-append_comm, length_permutation}
use Rattle.std.proofs.lemmas.Option.{slice_get_within}
use Rattle.cstn_minset.specs.declared.page.Page.{Page}
use Rattle.cstn_minset.specs.Pages.{Paged, on_page, held_records, IsInOrder}
use Rattle.cstn_minset.proofs.HeldLemmas.{got_set, held_less, none_on}
use Rattle.cstn_minset.proofs.HomeLemmas.{changed}
use Rattle.cstn_minset.proofs.RowLemmas.{read_page, at_all, fit_first_empty}
use Rattle.cstn_minset.proofs.rows.Rows.pass_on.Goals as goal

pub index_mut-requires : goal.index_mut-requires
index_mut-requires c =
    let row = subst (λ (v : Paged). c.args.head < v.heads) (sym c.self.view_is) c.requires.head in
    let own = c.self.invariant.own c.args.head row in
    let within = slice_get_within c.self.inside.pages.items c.args.head own.0 own.1 in
    omega (arith, within)

pub invariant_of-self : goal.invariant_of-self
invariant_of-self c =
    let inv = c.self.invariant in
    let row = subst (λ (v : Paged). c.args.head < v.heads) (sym c.self.view_is) c.requires.head in
    let own = inv.own c.args.head row in
    let none : c.replace-full.new.dest ≡ c.empty-none.result = c.replace-full.ensures.after in
    rw none (changed _ _ _ c.args.head _ _ own.0 c.empty-none.result inv own.1 (c.empty-none.ensures.head ∙ sym own.2)
    (fit_first_empty c.self.inside.heads c.args.head c.empty-none.result row c.empty-none.ensures.head c.empty-none.ensures.empty c.empty-none.ensures.page))

pub install-requires-clause-row : goal.install-requires-clause-row
install-requires-clause-row c =
    let row = subst (λ (v : Paged). c.args.head < v.heads) (sym c.self.view_is) c.requires.head in
    let own = c.self.invariant.own c.args.head row in
    let read = read_page c.self.inside.pages.items c.args.head own.0 c.index_mut.result.now own.1 c.index_mut.ensures.value in
    omega (arith, row, ap (λ x. x.head) (c.replace-full.ensures.value ∙ read), own.2)

pub install-requires-clause-full : goal.install-requires-clause-full
install-requires-clause-full c =
    let back = sym c.self.view_is in
    let row = subst (λ (v : Paged). c.args.head < v.heads) back c.requires.head in
    let full = subst (λ (v : Paged). (p : Page) → slice_get v.pages c.args.head ≡ Some p → length p.records.items ≡ 64) back c.requires.full in
    let own = c.self.invariant.own c.args.head row in
    let read = read_page c.self.inside.pages.items c.args.head own.0 c.index_mut.result.now own.1 c.index_mut.ensures.value in
    ap (λ x. length x.records.items) (c.replace-full.ensures.value ∙ read) ∙ full own.0 own.1

pub install-requires-clause-is : goal.install-requires-clause-is
install-requires-clause-is c =
    let row = subst (λ (v : Paged). c.args.head < v.heads) (sym c.self.view_is) c.requires.head in
    let own = c.self.invariant.own c.args.head row in
    let read = read_page c.self.inside.pages.items c.args.head own.0 c.index_mut.result.now own.1 c.index_mut.ensures.value in
    let full : c.replace-full.result ≡ own.0 = c.replace-full.ensures.value ∙ read in
    rw full (at_all (IsInOrder c.self.inside.heads) c.self.inside.pages.items c.args.head own.0 c.self.invariant.order own.1).range

pub install-requires-clause-room : goal.install-requires-clause-room
install-requires-clause-room c =
    let back = sym c.self.view_is in
    let row = subst (λ (v : Paged). c.args.head < v.heads) back c.requires.head in
    let room = subst (λ (v : Paged). length (held_records v.pages) < v.capacity) back c.requires.room in
    let own = c.self.invariant.own c.args.head row in
    let dest = c.replace-full.new.dest in
    let none : dest.records.items ≡ [] = ap (λ x. x.records.items) c.replace-full.ensures.after ∙ c.empty-none.ensures.empty in
    let less = held_less c.self.inside.pages.items c.args.head own.0 dest (on_page own.0) own.1 (rw (none_on dest none) (IsPermutation-refl (on_page own.0))) in
    omega (arith, room, length_permutation _ _ less, length-append (held_records (slice_set c.self.inside.pages.items c.args.head dest)) (on_page own.0))

pub returns-clause-page : goal.returns-clause-page
returns-clause-page c =
    let row = subst (λ (v : Paged). c.args.head < v.heads) (sym c.self.view_is) c.requires.head in
    let own = c.self.invariant.own c.args.head row in
    let dest = c.replace-full.new.dest in
    let head : dest.head ≡ c.args.head = ap (λ x. x.head) c.replace-full.ensures.after ∙ c.empty-none.ensures.head in
    let none : dest.records.items ≡ [] = ap (λ x. x.records.items) c.replace-full.ensures.after ∙ c.empty-none.ensures.empty in
    (dest, c.install.ensures.kept c.args.head dest (got_set c.self.inside.pages.items c.args.head dest own.0 own.1) (omega (arith, row, head)), head, omega (arith, ap length none))

pub returns-clause-same : goal.returns-clause-same
returns-clause-same c =
    let row = subst (λ (v : Paged). c.args.head < v.heads) (sym c.self.view_is) c.requires.head in
    let own = c.self.invariant.own c.args.head row in
    let dest = c.replace-full.new.dest in
    let none : dest.records.items ≡ [] = ap (λ x. x.records.items) c.replace-full.ensures.after ∙ c.empty-none.ensures.empty in
    let read = read_page c.self.inside.pages.items c.args.head own.0 c.index_mut.result.now own.1 c.index_mut.ensures.value in
    let full : c.replace-full.result ≡ own.0 = c.replace-full.ensures.value ∙ read in
    let less = held_less c.self.inside.pages.items c.args.head own.0 dest (on_page own.0) own.1 (rw (none_on dest none) (IsPermutation-refl (on_page own.0))) in
    let whole = subst (λ (v : Paged). IsPermutation (held_records v.pages) (held_records (slice_set c.self.inside.pages.items c.args.head dest) ++ on_page own.0)) c.self.view_is less in
    IsPermutation-trans _ _ _ whole (IsPermutation-trans _ _ _ (IsPermutation-append_comm (held_records (slice_set c.self.inside.pages.items c.args.head dest)) (on_page own.0)) (rw full at c.install.ensures.same))
