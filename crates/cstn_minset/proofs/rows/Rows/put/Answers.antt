use Rattle.std.proofs.Common.{ℕ, ◌≡◌, ◌<◌, ◌∷◌, length, ap, sym, ◌∙◌, subst, arith}
use Rattle.std.specs.Prelude.{Some, slice_get, slice_set, IsPermutation}
use Rattle.std.proofs.lemmas.List.Sorted.{IsPermutation-trans, IsPermutation-cons}
use Rattle.cstn_minset.specs.declared.page.Page.{Page}
use Rattle.cstn_minset.specs.Pages.{Paged, held_records, IsInOrder}
use Rattle.cstn_minset.proofs.HomeLemmas.{changed}
use Rattle.cstn_minset.proofs.HeldLemmas.{held_added}
use Rattle.cstn_minset.proofs.RowLemmas.{read_page, at_all, fit_more}
use Rattle.cstn_minset.proofs.rows.Rows.put.Goals as goal

pub invariant_of-self : goal.invariant_of-self
invariant_of-self c =
    let back = sym c.self.view_is in
    let inv = c.self.invariant in
    let k : ℕ = c.args.head in
    let page : (p : Page) × (slice_get c.self.inside.pages.items k ≡ Some p) × (p.head ≡ c.args.head) × (length p.records.items < 64) = subst (λ (v : Paged). (p : Page) × (slice_get v.pages k ≡ Some p) × (p.head ≡ c.args.head) × (length p.records.items < 64)) back c.make_room.ensures.page in
    let heads : c.self.inside.heads ≡ c.args.self.now.heads = subst (λ (v : Paged). v.heads ≡ c.args.self.now.heads) back c.make_room.ensures.size.0 in
    let read = read_page c.self.inside.pages.items c.args.head page.0 c.index_mut.result.now page.1 c.index_mut.ensures.value in
    let head = c.add.ensures.head ∙ ap (λ x. x.head) read in
    let items = rw read at c.add.ensures.added in
    let row : page.0.head < c.self.inside.heads = omega (arith, page.2, c.requires.head, heads) in
    changed _ _ _ k _ _ page.0 c.add.new.self inv page.1 head (fit_more _ k page.0 c.add.new.self c.args.added (at_all (IsInOrder c.self.inside.heads) c.self.inside.pages.items k page.0 inv.order page.1) row page.3 head items c.add.ensures.page (λ behind below. inv.dense k page.0 behind page.1 below))

pub returns-clause-put : goal.returns-clause-put
returns-clause-put c =
    let back = sym c.self.view_is in
    let k : ℕ = c.args.head in
    let page : (p : Page) × (slice_get c.self.inside.pages.items k ≡ Some p) × (p.head ≡ c.args.head) × (length p.records.items < 64) = subst (λ (v : Paged). (p : Page) × (slice_get v.pages k ≡ Some p) × (p.head ≡ c.args.head) × (length p.records.items < 64)) back c.make_room.ensures.page in
    let same = subst (λ (v : Paged). IsPermutation (held_records c.args.self.now.pages) (held_records v.pages)) back c.make_room.ensures.same in
    let read = read_page c.self.inside.pages.items c.args.head page.0 c.index_mut.result.now page.1 c.index_mut.ensures.value in
    let added = held_added c.self.inside.pages.items k page.0 c.add.new.self c.args.added page.1 (c.add.ensures.head ∙ ap (λ x. x.head) read) (rw read at c.add.ensures.added) in
    IsPermutation-trans _ _ _ (IsPermutation-cons _ _ _ same)
    (subst (λ (h : ℕ). IsPermutation ((h, c.args.added) ∷ held_records c.self.inside.pages.items) (held_records (slice_set c.self.inside.pages.items k c.add.new.self))) page.2 added)
