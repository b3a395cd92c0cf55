use Rattle.std.proofs.Common.{◌≡◌, length, refl, sym, ◌∙◌, subst, arith}
use Rattle.std.specs.Prelude.{Some, slice_get}
use Rattle.std.proofs.lemmas.Int.{ints}
use Rattle.std.proofs.lemmas.Option.{slice_get_read, slice_get_within, same_Some}
use Rattle.cstn_label.specs.Labels.{IsWithin}
use Rattle.cstn_label.specs.Read.{marks}
use Rattle.cstn_minset.specs.declared.columns.Record.{Record}
use Rattle.cstn_minset.specs.Sets.{IsRecordUnder}
use Rattle.cstn_minset.proofs.BitLemmas.{count_less}
use Rattle.cstn_minset.proofs.ScanLemmas.{looked_start, looked_next}
use Rattle.cstn_minset.proofs.scan.under_on_page.Goals as goal

pub bounds-records-i : goal.bounds-records-i
bounds-records-i c =
    let there = c.loop-i.invariant.among c.in-Some.i c.in-Some.ensures.set in
    rw c.as_slice-records.ensures.value (slice_get_within c.args.page.now.records.items c.in-Some.i there.0 there.1)

pub loop-i-init : goal.loop-i-init
loop-i-init c =
    looked_start c.args.page.now.records.items (IsRecordUnder c.args.b.now) (λ r. IsWithin (marks c.args.b.now.label) (marks r.label)) c.above-rest.result c.above-rest.ensures (λ r is. is.1)

pub loop-i-smaller : goal.loop-i-smaller
loop-i-smaller c =
    count_less c.loop-i.rest c.without_least-rest.result c.in-Some.i (c.without_least-rest.ensures.gone c.in-Some.i c.in-Some.ensures.set (λ j below. c.in-Some.ensures.least j (omega arith) below)) (λ k other. c.without_least-rest.ensures.others c.in-Some.i k c.in-Some.ensures.set (λ j below. c.in-Some.ensures.least j (omega arith) below) other) 64 c.in-Some.ensures.set c.in-Some.ensures.range

pub loop-i-preserved : goal.loop-i-preserved
loop-i-preserved c =
    let items = c.args.page.now.records.items in
    let i = c.in-Some.i in
    let kept = c.index-records-i.result in
    let there = c.loop-i.invariant.among i c.in-Some.ensures.set in
    let here : slice_get items i ≡ Some kept = slice_get_read items (length items) i kept refl (slice_get_within items i there.0 there.1) (rw c.as_slice-records.ensures.value at c.index-records-i.is) in
    looked_next items (IsRecordUnder c.args.b.now) (λ r. IsWithin (marks c.args.b.now.label) (marks r.label)) c.loop-i.rest c.without_least-rest.result i kept c.loop-i.invariant (c.without_least-rest.ensures.gone c.in-Some.i c.in-Some.ensures.set (λ j below. c.in-Some.ensures.least j (omega arith) below)) (λ k other. c.without_least-rest.ensures.others c.in-Some.i k c.in-Some.ensures.set (λ j below. c.in-Some.ensures.least j (omega arith) below) other) here
    (λ is. let low = is.0 in let high = c.if-kept-b.false in absurd (omega (arith, ints)))

pub returns-then-kept-b-clause-some : goal.returns-then-kept-b-clause-some
returns-then-kept-b-clause-some c =
    let items = c.args.page.now.records.items in
    let i = c.in-Some.i in
    let kept = c.index-records-i.result in
    let there = c.loop-i.invariant.among i c.in-Some.ensures.set in
    let here : slice_get items i ≡ Some kept = slice_get_read items (length items) i kept refl (slice_get_within items i there.0 there.1) (rw c.as_slice-records.ensures.value at c.index-records-i.is) in
    let label = subst (λ (r : Record). IsWithin (marks c.args.b.now.label) (marks r.label)) (same_Some there.0 kept (sym there.1 ∙ here)) there.2 in
    (kept, here, (let low = c.if-kept-b.true in omega (arith, ints), label))

pub returns-clause-none : goal.returns-clause-none
returns-clause-none c = λ i r there. c.loop-i.invariant.none i r (c.in_default.ensures.none i (omega arith)) there
