use Rattle.std.proofs.Common.{◌≡◌, arith, ap, rules, SFits, w32}
use Rattle.std.specs.Prelude.{ℤ}
use Rattle.std.proofs.lemmas.Int.{to_z-of_z}
use Rattle.std.proofs.lemmas.Option.{slice_get-get_or, slice_get_within}
use Rattle.cstn_label.specs.declared.bounds.Bound.{Bound}
use Rattle.cstn_minset.proofs.ScanLemmas.{none_next}
use Rattle.cstn_minset.proofs.scan.bound_on_page.Goals as goal

pub returns-then-kept-slot-clause-some : goal.returns-then-kept-slot-clause-some
returns-then-kept-slot-clause-some c =
    let here = rw (← c.kept-item.is) at (slice_get-get_or c.as_slice-kept-items.result.now c.loop-kept.kept-index c.kept-item.result (omega (arith, c.loop-kept-test.true))) in
    let fits : SFits w32 c.kept-item.result.least = search rules in
    let bound : ℤ → Bound = λ least. record { node = record { 0 = c.args.page.now.head }; least = least; label = c.kept-item.result.label } in
    (c.loop-kept.kept-index, c.kept-item.result, rw (← c.as_slice-kept-items.ensures.value) here, c.if-kept-slot.true, ap bound (to_z-of_z w32 c.kept-item.result.least fits))

pub loop-kept-preserved : goal.loop-kept-preserved
loop-kept-preserved c =
    let here = rw (← c.kept-item.is) at (slice_get-get_or c.as_slice-kept-items.result.now c.loop-kept.kept-index c.kept-item.result (omega (arith, c.loop-kept-test.true))) in
    none_next _ _ (λ r. r.slot ≡ c.args.slot) c.kept-item.result c.loop-kept.invariant here c.if-kept-slot.false

pub returns-clause-none : goal.returns-clause-none
returns-clause-none c = λ i r is.
    let there = rw (← c.as_slice-kept-items.ensures.value) at is in
    let within = slice_get_within c.as_slice-kept-items.result.now i r there in
    c.loop-kept.invariant i r (omega (arith, within, c.loop-kept-test.false)) there
