use Rattle.std.proofs.Common.{refl, sym, ◌∙◌, ap}
use Rattle.std.proofs.lemmas.Option.{slice_get_within, same_Some}
use Rattle.cstn_minset.specs.Pages.{most_pages}
use Rattle.cstn_minset.proofs.HomeLemmas.{page_of_in, pages_are_numbers}
use Rattle.cstn_minset.proofs.NumberLemmas.{nearer}
use Rattle.cstn_minset.specs.Sets.{IsRecordUnder}
use Rattle.cstn_minset.proofs.ScanLemmas.{scanned_page, scanned_more, scanned_end}
use Rattle.cstn_minset.proofs.scan.place_under.Goals as goal

pub page-requires : goal.page-requires
page-requires c =
    let here = scanned_page c.args.rows.now c.args.b.now.node.0 c.in-Some.number (IsRecordUnder c.args.b.now) (rw c.in-Some.is at c.loop-place.invariant) in
    slice_get_within c.args.rows.now.pages c.in-Some.number here.0 here.1

pub returns-in-Some-under_on_page-clause-some : goal.returns-in-Some-under_on_page-clause-some
returns-in-Some-under_on_page-clause-some c =
    let here = scanned_page c.args.rows.now c.args.b.now.node.0 c.in-Some.number (IsRecordUnder c.args.b.now) (rw c.in-Some.is at c.loop-place.invariant) in
    let found = c.in-Some-under_on_page.ensures.some in
    let page = sym c.page.ensures.page in
    let head = ap (λ x. x.head) (same_Some _ _ (c.page.ensures.page ∙ here.1)) ∙ here.2 in
    (found.0, (c.page.result.now, page, head, found.1), found.2)

pub next-place-requires : goal.next-place-requires
next-place-requires c =
    let here = scanned_page c.args.rows.now c.args.b.now.node.0 c.in-Some.number (IsRecordUnder c.args.b.now) (rw c.in-Some.is at c.loop-place.invariant) in
    slice_get_within c.args.rows.now.pages c.in-Some.number here.0 here.1

pub loop-place-smaller : goal.loop-place-smaller
loop-place-smaller c =
    let here = scanned_page c.args.rows.now c.args.b.now.node.0 c.in-Some.number (IsRecordUnder c.args.b.now) (rw c.in-Some.is at c.loop-place.invariant) in
    let all = most_pages c.args.rows.now.heads c.args.rows.now.capacity in
    rw c.in-Some.is (nearer _ _ c.args.b.now.node.0 c.in-Some.number c.in-Some.number c.next-place.result refl (pages_are_numbers all c.args.rows.now.pages) (page_of_in all c.in-Some.number c.args.rows.now.pages c.args.b.now.node.0 here) (c.next-place.ensures c.args.b.now.node.0 here))

pub loop-place-preserved : goal.loop-place-preserved
loop-place-preserved c =
    let scan = rw c.in-Some.is at c.loop-place.invariant in
    let here = scanned_page c.args.rows.now c.args.b.now.node.0 c.in-Some.number (IsRecordUnder c.args.b.now) scan in
    scanned_more c.args.rows.now c.args.b.now.node.0 c.in-Some.number (IsRecordUnder c.args.b.now) c.next-place.result c.page.result.now scan (sym c.page.ensures.page) c.in_default-under_on_page.ensures.none (c.next-place.ensures c.args.b.now.node.0 here)

pub returns-clause-none : goal.returns-clause-none
returns-clause-none c = scanned_end c.args.rows.now c.args.b.now.node.0 (IsRecordUnder c.args.b.now) c.loop-place.place c.in_default.not-Some c.loop-place.invariant
