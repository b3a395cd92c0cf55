use Rattle.std.proofs.Common.{ℕ, ◌≡◌, ◌⊎◌, inl, inr, ◌<◌, ◌∷◌, length, ap, sym, ◌∙◌, subst, arith, length-append}
use Rattle.std.specs.Prelude.{Some, slice_get, slice_set, IsPermutation}
use Rattle.std.proofs.lemmas.List.{get_or_append_left}
use Rattle.std.proofs.lemmas.List.Sorted.{IsPermutation-trans, IsPermutation-to_front}
use Rattle.std.proofs.lemmas.Option.{slice_get_within}
use Rattle.cstn_minset.specs.declared.page.Page.{Page}
use Rattle.cstn_minset.specs.Pages.{Paged, held_records, IsInOrder, StartsWith}
use Rattle.cstn_minset.proofs.HomeLemmas.{changed}
use Rattle.cstn_minset.proofs.HeldLemmas.{held_less, page_less}
use Rattle.cstn_minset.proofs.RowLemmas.{got, read_page, at_all, fit_less, of_row}
use Rattle.cstn_minset.proofs.rows.Rows.take.Goals as goal

abbrev IsFront : Paged → ℕ → Page → Type 0
IsFront v k p = (q : Page) × (slice_get v.pages k ≡ Some q) × (q.head ≡ p.head) × StartsWith p.records.items q.records.items

pub index_mut-requires : goal.index_mut-requires
index_mut-requires c =
    let old = got c.args.self.now.pages c.args.page c.requires.page in
    let front = subst (λ (v : Paged). IsFront v c.page_to_take_from-page.result old.0) (sym c.self.view_is) (c.page_to_take_from-page.ensures.front old.0 old.1) in
    let within = slice_get_within c.self.inside.pages.items c.page_to_take_from-page.result front.0 front.1 in
    omega (arith, within)

pub take-requires-clause-inside : goal.take-requires-clause-inside
take-requires-clause-inside c =
    let old = got c.args.self.now.pages c.args.page c.requires.page in
    let front = subst (λ (v : Paged). IsFront v c.page_to_take_from-page.result old.0) (sym c.self.view_is) (c.page_to_take_from-page.ensures.front old.0 old.1) in
    let read = read_page c.self.inside.pages.items c.page_to_take_from-page.result front.0 c.index_mut.result.now front.1 c.index_mut.ensures.value in
    rw (read, front.3.1) (omega (arith, c.requires.index old.0 old.1, length-append old.0.records.items front.3.0))

pub take-requires-clause-page : goal.take-requires-clause-page
take-requires-clause-page c =
    let old = got c.args.self.now.pages c.args.page c.requires.page in
    let front = subst (λ (v : Paged). IsFront v c.page_to_take_from-page.result old.0) (sym c.self.view_is) (c.page_to_take_from-page.ensures.front old.0 old.1) in
    let read = read_page c.self.inside.pages.items c.page_to_take_from-page.result front.0 c.index_mut.result.now front.1 c.index_mut.ensures.value in
    rw read (at_all (IsInOrder c.self.inside.heads) c.self.inside.pages.items c.page_to_take_from-page.result front.0 c.self.invariant.order front.1).range

pub invariant_of-self : goal.invariant_of-self
invariant_of-self c =
    let back = sym c.self.view_is in
    let inv = c.self.invariant in
    let k : ℕ = c.page_to_take_from-page.result in
    let old = got c.args.self.now.pages c.args.page c.requires.page in
    let front = subst (λ (v : Paged). IsFront v k old.0) back (c.page_to_take_from-page.ensures.front old.0 old.1) in
    let read = read_page c.self.inside.pages.items c.page_to_take_from-page.result front.0 c.index_mut.result.now front.1 c.index_mut.ensures.value in
    let inside : c.args.index < length front.0.records.items = rw front.3.1 (omega (arith, c.requires.index old.0 old.1, length-append old.0.records.items front.3.0)) in
    let order = at_all (IsInOrder c.self.inside.heads) c.self.inside.pages.items c.page_to_take_from-page.result front.0 inv.order front.1 in
    let spare = subst (λ (v : Paged). (q : Page) → slice_get v.pages k ≡ Some q → (k < v.heads) ⊎ (63 < length q.records.items)) back c.page_to_take_from-page.ensures.spare front.0 front.1 in
    let head = c.take.ensures.head ∙ ap (λ x. x.head) read in
    changed _ _ _ k _ _ front.0 c.take.new.self inv front.1 head
    (fit_less _ k c.args.index front.0 c.take.new.self c.take.result order (of_row _ c.args.index front.0 order inside) inside head (rw read at c.take.ensures.left) c.take.ensures.page
    (λ behind. elim spare [ inl first ↦ absurd (omega (arith, first, behind)) | inr more ↦ more ]))

pub returns-clause-value : goal.returns-clause-value
returns-clause-value c = λ p is.
    let front = subst (λ (v : Paged). IsFront v c.page_to_take_from-page.result p) (sym c.self.view_is) (c.page_to_take_from-page.ensures.front p is) in
    let read = read_page c.self.inside.pages.items c.page_to_take_from-page.result front.0 c.index_mut.result.now front.1 c.index_mut.ensures.value in
    let taken = rw (read, front.3.1) at c.take.ensures.taken in
    taken ∙ get_or_append_left p.records.items front.3.0 c.take.result c.args.index (c.requires.index p is)

pub returns-clause-taken : goal.returns-clause-taken
returns-clause-taken c = λ p is.
    let back = sym c.self.view_is in
    let k : ℕ = c.page_to_take_from-page.result in
    let front = subst (λ (v : Paged). IsFront v k p) back (c.page_to_take_from-page.ensures.front p is) in
    let same = subst (λ (v : Paged). IsPermutation (held_records c.args.self.now.pages) (held_records v.pages)) back c.page_to_take_from-page.ensures.same in
    let read = read_page c.self.inside.pages.items c.page_to_take_from-page.result front.0 c.index_mut.result.now front.1 c.index_mut.ensures.value in
    let inside : c.args.index < length front.0.records.items = rw front.3.1 (omega (arith, c.requires.index p is, length-append p.records.items front.3.0)) in
    let less = held_less c.self.inside.pages.items k front.0 c.take.new.self _ front.1 (page_less front.0 c.take.new.self c.args.index c.take.result (c.take.ensures.head ∙ ap (λ x. x.head) read) inside (rw read at c.take.ensures.taken) (rw read at c.take.ensures.left)) in
    let all = IsPermutation-trans _ _ _ same (IsPermutation-trans _ _ _ less (IsPermutation-to_front (held_records (slice_set c.self.inside.pages.items k c.take.new.self)) (front.0.head, c.take.result))) in
    subst (λ (h : ℕ). IsPermutation (held_records c.args.self.now.pages) ((h, c.take.result) ∷ held_records (slice_set c.self.inside.pages.items k c.take.new.self))) front.2 all
