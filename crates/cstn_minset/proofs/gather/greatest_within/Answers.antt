use Rattle.std.proofs.Common.{◌≡◌, ◌⊎◌, inl, inr, ℕ, refl, sym, ◌∙◌, ap, subst, rules, SFits, w32}
use Rattle.std.specs.Prelude.{ℤ, pos}
use Rattle.std.proofs.lemmas.Int.{to_z-of_z}
use Rattle.std.proofs.lemmas.Option.{slice_get_within, same_Some}
use Rattle.cstn_label.specs.Read.{marks}
use Rattle.cstn_minset.specs.declared.columns.Record.{Record}
use Rattle.cstn_minset.specs.Pages.{most_pages}
use Rattle.cstn_minset.specs.Sets.{IsRecordAt, IsRecordOf}
use Rattle.cstn_minset.proofs.HomeLemmas.{page_of_in, pages_are_numbers}
use Rattle.cstn_minset.proofs.NumberLemmas.{nearer}
use Rattle.cstn_minset.proofs.ScanLemmas.{scanned_start, scanned_page, scanned_more}
use Rattle.cstn_minset.proofs.gather.greatest_within.Goals as goal

pub loop-place-init : goal.loop-place-init
loop-place-init c = record { scan = scanned_start _ _ _ _ c.first-place.ensures.first; floor = inl refl }

pub page-requires : goal.page-requires
page-requires c =
    let here = scanned_page c.args.rows.now c.args.node.0 c.in-Some.number (λ r. ⊥) (rw c.in-Some.is at c.loop-place.invariant.scan) in
    slice_get_within c.args.rows.now.pages c.in-Some.number here.0 here.1

pub next-place-requires : goal.next-place-requires
next-place-requires c =
    let here = scanned_page c.args.rows.now c.args.node.0 c.in-Some.number (λ r. ⊥) (rw c.in-Some.is at c.loop-place.invariant.scan) in
    slice_get_within c.args.rows.now.pages c.in-Some.number here.0 here.1

pub loop-place-smaller : goal.loop-place-smaller
loop-place-smaller c =
    let here = scanned_page c.args.rows.now c.args.node.0 c.in-Some.number (λ r. ⊥) (rw c.in-Some.is at c.loop-place.invariant.scan) in
    let all = most_pages c.args.rows.now.heads c.args.rows.now.capacity in
    rw c.in-Some.is (nearer _ _ c.args.node.0 c.in-Some.number c.in-Some.number c.next-place.result refl (pages_are_numbers all c.args.rows.now.pages) (page_of_in all c.in-Some.number c.args.rows.now.pages c.args.node.0 here) (c.next-place.ensures c.args.node.0 here))

pub loop-place-preserved : goal.loop-place-preserved
loop-place-preserved c =
    let rows = c.args.rows.now in
    let h = c.args.node.0 in
    let scan = rw c.in-Some.is at c.loop-place.invariant.scan in
    let here = scanned_page rows h c.in-Some.number (λ r. ⊥) scan in
    let page = sym c.page.ensures.page in
    let head = ap (λ x. x.head) (same_Some _ _ (c.page.ensures.page ∙ here.1)) ∙ here.2 in
    let next = c.greatest_on_page-greatest.result in
    let fits : SFits w32 next = search rules in
    let told : (next ≡ pos 0) ⊎ ((k i : ℕ) × (r : Record) × IsRecordAt rows.pages h k i r × IsRecordOf (marks c.args.label) next r) = elim c.greatest_on_page-greatest.ensures [
      | inl same ↦ subst (λ (g : ℤ). (g ≡ pos 0) ⊎ ((k i : ℕ) × (r : Record) × IsRecordAt rows.pages h k i r × IsRecordOf (marks c.args.label) g r)) (sym same) c.loop-place.invariant.floor
      | inr found ↦ inr (c.in-Some.number, found.0, found.1, (c.page.result.now, page, head, found.2), found.3)
    ] in
    record {
      scan = scanned_more rows h c.in-Some.number (λ r. ⊥) c.next-place.result c.page.result.now scan page (λ i r at no'. no') (c.next-place.ensures h here);
      floor = rw (to_z-of_z w32 next fits) told;
    }

pub returns : goal.returns
returns c = c.loop-place.invariant.floor
