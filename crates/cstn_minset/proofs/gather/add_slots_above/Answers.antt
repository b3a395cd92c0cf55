use Rattle.std.proofs.Common.{◌≡◌, ◌+◌, refl, sym, ◌∙◌, length, arith, append-nil, length-append, [], rules, SFits, w32}
use Rattle.std.specs.Prelude.{Some, slice_get}
use Rattle.std.proofs.lemmas.Int.{ints, to_z-of_z}
use Rattle.std.proofs.lemmas.Option.{slice_get_read, slice_get_within}
use Rattle.cstn_minset.proofs.BitLemmas.{count_less}
use Rattle.cstn_minset.proofs.GatherLemmas.{left_start, left_set, left_next, left_end, none_sought}
use Rattle.cstn_minset.proofs.gather.add_slots_above.Goals as goal

pub returns-then-page-sought-clause-added : goal.returns-then-page-sought-clause-added
returns-then-page-sought-clause-added c = ([], sym (append-nil c.args.found.now.items), none_sought c.args.page.now c.args.sought.floor c.args.sought.marking c.requires.page (let low = c.if-page-sought.true in omega (arith, ints)))

pub loop-i-init : goal.loop-i-init
loop-i-init c = record { added = left_start c.args.page.now.records.items c.args.sought.floor c.args.sought.marking c.args.found.now.items c.marking_if_given-marking.result; room = refl }

pub loop-i-smaller : goal.loop-i-smaller
loop-i-smaller c =
    count_less c.loop-i.rest c.without_least-rest.result c.in-Some.i (c.without_least-rest.ensures.gone c.in-Some.i c.in-Some.ensures.set (λ j below. c.in-Some.ensures.least j (omega arith) below))
    (λ k other. c.without_least-rest.ensures.others c.in-Some.i k c.in-Some.ensures.set (λ j below. c.in-Some.ensures.least j (omega arith) below) other) 64 c.in-Some.ensures.set c.in-Some.ensures.range

pub bounds-records-i : goal.bounds-records-i
bounds-records-i c =
    let at = left_set _ _ _ _ _ _ _ c.in-Some.i c.loop-i.invariant.added c.in-Some.ensures.set in
    let there = (c.marking_if_given-marking.ensures c.in-Some.i).0 at.1 in
    rw c.as_slice-records.ensures.value (slice_get_within c.args.page.now.records.items c.in-Some.i there.0 there.1)

pub add_if_above-requires : goal.add_if_above-requires
add_if_above-requires c =
    let at = left_set _ _ _ _ _ _ _ c.in-Some.i c.loop-i.invariant.added c.in-Some.ensures.set in
    let there = (c.marking_if_given-marking.ensures c.in-Some.i).0 at.1 in
    let within = slice_get_within c.args.page.now.records.items c.in-Some.i there.0 there.1 in
    let was = c.loop-i.invariant.added.added in
    let size : length c.loop-i.found.items ≡ length c.args.found.now.items + length was.more = rw was.is (length-append c.args.found.now.items was.more) in
    record { room = omega (arith, size, was.few, within, at.0, c.requires.room, c.loop-i.invariant.room) }

pub loop-i-preserved : goal.loop-i-preserved
loop-i-preserved c =
    let items = c.args.page.now.records.items in
    let i = c.in-Some.i in
    let kept = c.index-records-i.result in
    let at = left_set _ _ _ _ _ _ _ i c.loop-i.invariant.added c.in-Some.ensures.set in
    let there = (c.marking_if_given-marking.ensures i).0 at.1 in
    let here : slice_get items i ≡ Some kept = slice_get_read items (length items) i kept refl (slice_get_within items i there.0 there.1) (rw c.as_slice-records.ensures.value at c.index-records-i.is) in
    let fits : SFits w32 c.args.sought.floor = search rules in
    let floor = to_z-of_z w32 c.args.sought.floor fits in
    record {
      added = left_next items c.args.sought.floor c.args.sought.marking c.args.found.now.items c.marking_if_given-marking.result c.loop-i.found.items c.add_if_above.new.found.items
          c.loop-i.rest c.without_least-rest.result i kept c.marking_if_given-marking.ensures c.loop-i.invariant.added c.in-Some.ensures.set (λ j below. c.in-Some.ensures.least j (omega arith) below)
          (c.without_least-rest.ensures.gone i c.in-Some.ensures.set (λ j below. c.in-Some.ensures.least j (omega arith) below)) (λ k other. c.without_least-rest.ensures.others i k c.in-Some.ensures.set (λ j below. c.in-Some.ensures.least j (omega arith) below) other)
          here (rw floor at c.add_if_above.ensures.added) (rw floor at c.add_if_above.ensures.passed);
      room = c.add_if_above.ensures.capacity ∙ c.loop-i.invariant.room;
    }

pub returns-clause-added : goal.returns-clause-added
returns-clause-added c =
    let was = c.loop-i.invariant.added in (
      was.added.more,
      was.added.is,
      left_end c.args.page.now.records.items c.args.sought.floor c.args.sought.marking c.args.found.now.items c.marking_if_given-marking.result c.loop-i.found.items c.loop-i.rest
          c.marking_if_given-marking.ensures c.in_default.ensures.none was,
    )

pub returns-clause-capacity : goal.returns-clause-capacity
returns-clause-capacity c = c.loop-i.invariant.room
