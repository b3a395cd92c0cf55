use Rattle.std.proofs.Common.{refl, sym}
use Rattle.std.proofs.lemmas.Option.{slice_get_within}
use Rattle.cstn_label.specs.Labels.{IsMarked}
use Rattle.cstn_label.specs.Read.{marks}
use Rattle.cstn_minset.specs.Pages.{most_pages}
use Rattle.cstn_minset.proofs.HomeLemmas.{page_of_in, pages_are_numbers}
use Rattle.cstn_minset.proofs.NumberLemmas.{nearer}
use Rattle.cstn_minset.proofs.ScanLemmas.{scanned_start, scanned_page, scanned_more, scanned_end}
use Rattle.cstn_minset.proofs.gather.row_marks.Goals as goal

pub loop-place-init : goal.loop-place-init
loop-place-init c = scanned_start _ _ _ _ c.first-place.ensures.first

pub page-requires : goal.page-requires
page-requires c =
    let here = scanned_page c.args.rows.now c.args.node.0 c.in-Some.number _ (rw c.in-Some.is at c.loop-place.invariant) in
    slice_get_within c.args.rows.now.pages c.in-Some.number here.0 here.1

pub next-place-requires : goal.next-place-requires
next-place-requires c =
    let here = scanned_page c.args.rows.now c.args.node.0 c.in-Some.number _ (rw c.in-Some.is at c.loop-place.invariant) in
    slice_get_within c.args.rows.now.pages c.in-Some.number here.0 here.1

pub loop-place-smaller : goal.loop-place-smaller
loop-place-smaller c =
    let here = scanned_page c.args.rows.now c.args.node.0 c.in-Some.number _ (rw c.in-Some.is at c.loop-place.invariant) in
    let all = most_pages c.args.rows.now.heads c.args.rows.now.capacity in
    rw c.in-Some.is (nearer _ _ c.args.node.0 c.in-Some.number c.in-Some.number c.next-place.result refl (pages_are_numbers all c.args.rows.now.pages) (page_of_in all c.in-Some.number c.args.rows.now.pages c.args.node.0 here) (c.next-place.ensures c.args.node.0 here))

pub loop-place-preserved : goal.loop-place-preserved
loop-place-preserved c =
    let scan = rw c.in-Some.is at c.loop-place.invariant in
    let here = scanned_page c.args.rows.now c.args.node.0 c.in-Some.number _ scan in
    scanned_more c.args.rows.now c.args.node.0 c.in-Some.number _ c.next-place.result c.page.result.now scan (sym c.page.ensures.page) (c.page_marks.ensures c.if-page_marks.false) (c.next-place.ensures c.args.node.0 here)

pub returns : goal.returns
returns c = record { none = λ f. scanned_end c.args.rows.now c.args.node.0 (λ r. IsMarked (marks r.label) c.args.p.index) c.loop-place.place c.in_default.not-Some c.loop-place.invariant }
