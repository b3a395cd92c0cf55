use Rattle.std.proofs.Common.{ℕ, ◌≡◌, ◌≢◌, ◌<◌, ◌≤◌, ◌∷◌, length, ap, sym, ◌∙◌, subst, arith}
use Rattle.std.specs.Prelude.{Some, slice_get, slice_set, IsPermutation}
use Rattle.std.proofs.lemmas.List.Sorted.{IsPermutation-trans, IsPermutation-to_front}
use Rattle.cstn_minset.specs.declared.page.Page.{Page}
use Rattle.cstn_minset.specs.Pages.{Paged, held_records, IsInOrder}
use Rattle.cstn_minset.proofs.HeldLemmas.{got_set, got_other, held_less, held_added, page_less}
use Rattle.cstn_minset.proofs.HomeLemmas.{changed}
use Rattle.cstn_minset.proofs.RowLemmas.{read_page, at_all, fit_less, fit_more}
use Rattle.cstn_minset.proofs.rows.Rows.refill.Goals as goal

abbrev IsLight : Paged → ℕ → ℕ → Type 0
IsLight v first k = (p : Page) × (slice_get v.pages k ≡ Some p) × (p.head ≡ first) × (length p.records.items ≤ 63)

pub invariant_of-self : goal.invariant_of-self
invariant_of-self c =
    let back = sym c.self.view_is in
    let inv = c.self.invariant in
    let behind = subst (λ (v : Paged). v.heads ≤ c.args.page) back c.requires.behind in
    let row = subst (λ (v : Paged). c.args.first < v.heads) back c.requires.row in
    let light = subst (λ (v : Paged). IsLight v c.args.first c.args.page) back c.requires.page in
    let some = subst (λ (v : Paged). (p : Page) → slice_get v.pages c.args.first ≡ Some p → 0 < length p.records.items) back c.requires.some in
    let own = inv.own c.args.first row in
    let read = read_page c.self.inside.pages.items c.args.first own.0 c.index_mut.result.now own.1 c.index_mut.ensures.value in
    let head = c.take-moved.ensures.head ∙ ap (λ x. x.head) read in
    let step = changed c.self.inside.heads c.self.inside.capacity _ c.args.first c.self.inside.pages.items c.self.inside.links own.0 c.take-moved.new.self inv own.1 head
    (fit_less c.self.inside.heads c.args.first 0 own.0 c.take-moved.new.self c.take-moved.result (at_all (IsInOrder c.self.inside.heads) c.self.inside.pages.items c.args.first own.0 inv.order own.1) (omega (arith, own.2, row)) (some own.0 own.1) head (rw read at c.take-moved.ensures.left) c.take-moved.ensures.page (λ le. absurd (omega (arith, le, row)))) in
    let other : c.args.first ≢ c.args.page = λ same. omega (arith, same, row, behind) in
    let there = got_other c.self.inside.pages.items c.args.first c.args.page c.take-moved.new.self other ∙ light.1 in
    let read' = read_page (slice_set c.self.inside.pages.items c.args.first c.take-moved.new.self) c.args.page light.0 c.index_mut-2.result.now there c.index_mut-2.ensures.value in
    let head' = c.add.ensures.head ∙ ap (λ x. x.head) read' in
    changed c.self.inside.heads c.self.inside.capacity _ c.args.page (slice_set c.self.inside.pages.items c.args.first c.take-moved.new.self) c.self.inside.links light.0 c.add.new.self step there head'
    (fit_more c.self.inside.heads c.args.page light.0 c.add.new.self c.take-moved.result (at_all (IsInOrder c.self.inside.heads) c.self.inside.pages.items c.args.page light.0 inv.order light.1) (omega (arith, light.2, row)) (omega (arith, light.3)) head' (rw read' at c.add.ensures.added) c.add.ensures.page (λ le below. inv.dense c.args.page light.0 le light.1 below))

pub returns-clause-filled : goal.returns-clause-filled
returns-clause-filled c = λ p is.
    let back = sym c.self.view_is in
    let behind = subst (λ (v : Paged). v.heads ≤ c.args.page) back c.requires.behind in
    let row = subst (λ (v : Paged). c.args.first < v.heads) back c.requires.row in
    let other : c.args.first ≢ c.args.page = λ same. omega (arith, same, row, behind) in
    let there = got_other c.self.inside.pages.items c.args.first c.args.page c.take-moved.new.self other ∙ subst (λ (v : Paged). slice_get v.pages c.args.page ≡ Some p) back is in
    let read = read_page (slice_set c.self.inside.pages.items c.args.first c.take-moved.new.self) c.args.page p c.index_mut-2.result.now there c.index_mut-2.ensures.value in
    (c.add.new.self, c.take-moved.result, got_set (slice_set c.self.inside.pages.items c.args.first c.take-moved.new.self) c.args.page c.add.new.self p there, c.add.ensures.head ∙ ap (λ x. x.head) read, rw read at c.add.ensures.added)

pub returns-clause-same : goal.returns-clause-same
returns-clause-same c =
    let back = sym c.self.view_is in
    let behind = subst (λ (v : Paged). v.heads ≤ c.args.page) back c.requires.behind in
    let row = subst (λ (v : Paged). c.args.first < v.heads) back c.requires.row in
    let light = subst (λ (v : Paged). IsLight v c.args.first c.args.page) back c.requires.page in
    let some = subst (λ (v : Paged). (p : Page) → slice_get v.pages c.args.first ≡ Some p → 0 < length p.records.items) back c.requires.some in
    let own = c.self.invariant.own c.args.first row in
    let read = read_page c.self.inside.pages.items c.args.first own.0 c.index_mut.result.now own.1 c.index_mut.ensures.value in
    let less = held_less c.self.inside.pages.items c.args.first own.0 c.take-moved.new.self _ own.1 (page_less own.0 c.take-moved.new.self 0 c.take-moved.result (c.take-moved.ensures.head ∙ ap (λ x. x.head) read) (some own.0 own.1) (rw read at c.take-moved.ensures.taken) (rw read at c.take-moved.ensures.left)) in
    let other : c.args.first ≢ c.args.page = λ same. omega (arith, same, row, behind) in
    let there = got_other c.self.inside.pages.items c.args.first c.args.page c.take-moved.new.self other ∙ light.1 in
    let read' = read_page (slice_set c.self.inside.pages.items c.args.first c.take-moved.new.self) c.args.page light.0 c.index_mut-2.result.now there c.index_mut-2.ensures.value in
    let more = held_added (slice_set c.self.inside.pages.items c.args.first c.take-moved.new.self) c.args.page light.0 c.add.new.self c.take-moved.result there (c.add.ensures.head ∙ ap (λ x. x.head) read') (rw read' at c.add.ensures.added) in
    let all = IsPermutation-trans _ _ _ less (IsPermutation-to_front (held_records (slice_set c.self.inside.pages.items c.args.first c.take-moved.new.self)) (own.0.head, c.take-moved.result)) in
    let all' = subst (λ (h : ℕ). IsPermutation (held_records c.self.inside.pages.items) ((h, c.take-moved.result) ∷ held_records (slice_set c.self.inside.pages.items c.args.first c.take-moved.new.self))) (own.2 ∙ sym light.2) all in
    subst (λ (v : Paged). IsPermutation (held_records v.pages) (held_records (slice_set (slice_set c.self.inside.pages.items c.args.first c.take-moved.new.self) c.args.page c.add.new.self))) c.self.view_is (IsPermutation-trans _ _ _ all' more)
