use Rattle.std.proofs.Common.{refl, sym, ◌∙◌, ap, arith}
use Rattle.std.proofs.lemmas.Option.{slice_get_within, same_Some}
use Rattle.cstn_minset.specs.Pages.{most_pages}
use Rattle.cstn_minset.proofs.GatherLemmas.{gathered_start, gathered_page, gathered_room, gathered_more, gathered_all}
use Rattle.cstn_minset.proofs.HomeLemmas.{page_of_in, pages_are_numbers}
use Rattle.cstn_minset.proofs.NumberLemmas.{nearer}
use Rattle.cstn_minset.proofs.gather.slots_above.Goals as goal

pub loop-place-init : goal.loop-place-init
loop-place-init c = record { walk = gathered_start _ _ _ _ _ _ c.clear.ensures.items c.first-place.ensures.first; room = c.clear.ensures.capacity }

pub page-requires : goal.page-requires
page-requires c =
    let here = gathered_page _ _ _ _ _ c.in-Some.number (rw c.in-Some.is at c.loop-place.invariant.walk) in
    slice_get_within c.args.rows.now.pages c.in-Some.number here.0 here.1

pub add_slots_above-requires-clause-room : goal.add_slots_above-requires-clause-room
add_slots_above-requires-clause-room c =
    omega (arith, c.loop-place.invariant.room, c.requires.room, gathered_room _ _ _ _ _ c.in-Some.number c.page.result.now (rw c.in-Some.is at c.loop-place.invariant.walk) (sym c.page.ensures.page))

pub next-place-requires : goal.next-place-requires
next-place-requires c =
    let here = gathered_page _ _ _ _ _ c.in-Some.number (rw c.in-Some.is at c.loop-place.invariant.walk) in
    slice_get_within c.args.rows.now.pages c.in-Some.number here.0 here.1

pub loop-place-smaller : goal.loop-place-smaller
loop-place-smaller c =
    let here = gathered_page _ _ _ _ _ c.in-Some.number (rw c.in-Some.is at c.loop-place.invariant.walk) in
    let all = most_pages c.args.rows.now.heads c.args.rows.now.capacity in
    rw c.in-Some.is (nearer _ _ c.args.node.0 c.in-Some.number c.in-Some.number c.next-place.result refl (pages_are_numbers all c.args.rows.now.pages) (page_of_in all c.in-Some.number c.args.rows.now.pages c.args.node.0 here) (c.next-place.ensures c.args.node.0 here))

pub loop-place-preserved : goal.loop-place-preserved
loop-place-preserved c =
    let walk = rw c.in-Some.is at c.loop-place.invariant.walk in
    let here = gathered_page _ _ _ _ _ c.in-Some.number walk in
    let page = sym c.page.ensures.page in
    let head = ap (λ x. x.head) (same_Some _ _ (c.page.ensures.page ∙ here.1)) ∙ here.2 in
    let added = c.add_slots_above.ensures.added in
    record {
      walk = rw added.1 (gathered_more _ _ _ _ _ c.in-Some.number c.page.result.now added.0 c.next-place.result walk page head added.2 (c.next-place.ensures c.args.node.0 here));
      room = c.add_slots_above.ensures.capacity ∙ c.loop-place.invariant.room;
    }

pub returns-clause-all : goal.returns-clause-all
returns-clause-all c = gathered_all _ _ _ _ _ c.loop-place.place c.in_default.not-Some c.loop-place.invariant.walk

pub returns-clause-only : goal.returns-clause-only
returns-clause-only c = c.loop-place.invariant.walk.only

pub returns-clause-capacity : goal.returns-clause-capacity
returns-clause-capacity c = c.loop-place.invariant.room
