use Rattle.std.proofs.Common.{◌≡◌, length, refl, sym, ◌∙◌, subst, arith}
use Rattle.std.specs.Prelude.{Some, slice_get}
use Rattle.std.proofs.lemmas.Option.{same_Some, slice_get_read, slice_get_within}
use Rattle.cstn_label.specs.Labels.{IsWithin}
use Rattle.cstn_label.specs.Read.{marks}
use Rattle.cstn_minset.specs.declared.columns.Record.{Record}
use Rattle.cstn_minset.proofs.BitLemmas.{count_less, part_less}
use Rattle.cstn_minset.proofs.FloorLemmas.{raised_start, raised_by}
use Rattle.cstn_minset.proofs.gather.raise_on_page.Goals as goal

pub loop-i-init : goal.loop-i-init
loop-i-init c = record { part = λ k set. set; raised = raised_start c.args.page.now.records.items (marks c.args.label) c.args.greatest.now }

pub bounds-records-i : goal.bounds-records-i
bounds-records-i c =
    let there = (c.within-within.ensures c.in-Some.i).0 (c.loop-i.invariant.part c.in-Some.i c.in-Some.ensures.set) in
    rw c.as_slice-records.ensures.value (slice_get_within c.args.page.now.records.items c.in-Some.i there.0 there.1)

pub loop-i-smaller : goal.loop-i-smaller
loop-i-smaller c =
    count_less c.loop-i.rest c.without_least-rest.result c.in-Some.i (c.without_least-rest.ensures.gone c.in-Some.i c.in-Some.ensures.set (λ j below. c.in-Some.ensures.least j (omega arith) below))
    (λ k other. c.without_least-rest.ensures.others c.in-Some.i k c.in-Some.ensures.set (λ j below. c.in-Some.ensures.least j (omega arith) below) other) 64 c.in-Some.ensures.set c.in-Some.ensures.range

pub loop-i-preserved : goal.loop-i-preserved
loop-i-preserved c =
    let items = c.args.page.now.records.items in
    let i = c.in-Some.i in
    let kept = c.index-records-i.result in
    let there = (c.within-within.ensures i).0 (c.loop-i.invariant.part i c.in-Some.ensures.set) in
    let here : slice_get items i ≡ Some kept = slice_get_read items (length items) i kept refl (slice_get_within items i there.0 there.1) (rw c.as_slice-records.ensures.value at c.index-records-i.is) in
    let within = subst (λ (r : Record). IsWithin (marks r.label) (marks c.args.label)) (same_Some there.0 kept (sym there.1 ∙ here)) there.2 in
    record {
      part = part_less c.loop-i.rest c.without_least-rest.result i (c.without_least-rest.ensures.gone c.in-Some.i c.in-Some.ensures.set (λ j below. c.in-Some.ensures.least j (omega arith) below))
          (λ k other. c.without_least-rest.ensures.others c.in-Some.i k c.in-Some.ensures.set (λ j below. c.in-Some.ensures.least j (omega arith) below) other) c.within-within.result c.loop-i.invariant.part;
      raised = raised_by items (marks c.args.label) i kept c.args.greatest.now c.loop-i.greatest c.raise_by.new.greatest here within c.loop-i.invariant.raised c.raise_by.ensures;
    }

pub returns : goal.returns
returns c = c.loop-i.invariant.raised
