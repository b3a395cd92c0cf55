use Rattle.std.proofs.Common.{◌≡◌, inl, inr, ◌<◌, ◌-◌, ℕ, length, refl, arith, ap, sym, subst, ◌∙◌}
use Rattle.std.proofs.lemmas.Bool.{cases_eq}
use Rattle.std.proofs.lemmas.Option.{slice_get_read}
use Rattle.cstn_label.specs.Labels.{Label}
use Rattle.cstn_label.specs.Read.{marks}
use Rattle.cstn_minset.specs.Sheets.{mark_in}
use Rattle.cstn_minset.specs.Columns.{ColumnsParts, mark_on}
use Rattle.cstn_minset.proofs.ColumnLemmas.{columns_taken}
use Rattle.cstn_minset.proofs.columns.Columns.swap_remove.Goals as goal

pub replace-requires-clause-small : goal.replace-requires-clause-small
replace-requires-clause-small c =
    let inside = subst (λ (v : ColumnsParts). c.args.index < length v.items) (sym c.self.view_is) c.requires.inside in
    omega (arith, inside, c.self.invariant.few)

pub replace-requires-clause-before : goal.replace-requires-clause-before
replace-requires-clause-before c = λ p small.
    let inside = subst (λ (v : ColumnsParts). c.args.index < length v.items) (sym c.self.view_is) c.requires.inside in
    c.self.invariant.told p c.args.index small
    ∙ ap (λ o. mark_on o p) (slice_get_read c.self.inside.records.items (length c.self.inside.records.items) c.args.index c.index-records-index.result refl inside (rw c.as_slice-records.ensures.value at c.index-records-index.is))

pub replace-requires-2-clause-small : goal.replace-requires-2-clause-small
replace-requires-2-clause-small c =
    let inside = subst (λ (v : ColumnsParts). c.args.index < length v.items) (sym c.self.view_is) c.requires.inside in
    omega (arith, inside, c.self.invariant.few, c.len-last.ensures.value)

pub replace-requires-2-clause-before : goal.replace-requires-2-clause-before
replace-requires-2-clause-before c = λ p small.
    let items = c.self.inside.records.items in
    let inside = subst (λ (v : ColumnsParts). c.args.index < length v.items) (sym c.self.view_is) c.requires.inside in
    let last = c.len-last.result - 1 in
    let moved = c.index-records-last.result in
    elim (cases_eq last c.args.index) [
      | inl same ↦ subst (λ (j : ℕ). mark_in c.replace.new.self p j ≡ marks moved.label p) (sym same) (c.replace.ensures.after p small)
      | inr other ↦ c.replace.ensures.others p last other ∙ c.self.invariant.told p last small
          ∙ ap (λ o. mark_on o p) (slice_get_read items (length items) last moved refl (omega (arith, inside, c.len-last.ensures.value)) (rw c.as_slice-records.ensures.value at c.index-records-last.is))
    ]

pub invariant_of-self : goal.invariant_of-self
invariant_of-self c =
    let items = c.self.inside.records.items in
    let inside = subst (λ (v : ColumnsParts). c.args.index < length v.items) (sym c.self.view_is) c.requires.inside in
    let last = c.len-last.result - 1 in
    let end : last ≡ length items - 1 = ap (λ n. n - 1) c.len-last.ensures.value in
    let moved = c.index-records-last.result in
    let there = slice_get_read items (length items) last moved refl (omega (arith, inside, c.len-last.ensures.value)) (rw c.as_slice-records.ensures.value at c.index-records-last.is) in
    rw c.swap_remove.ensures.items (columns_taken items c.self.inside.sheet c.replace.new.self c.replace-2.new.self c.self.inside.used c.args.index c.swap_remove.result moved c.self.invariant inside
    (rw end at there) c.replace.ensures.after c.replace.ensures.others
    (λ p small. (rw end at c.replace-2.ensures.after p small) ∙ ap (λ (f : Label). f p) c.empty.ensures.empty)
    (rw end at c.replace-2.ensures.others))
