use Rattle.std.proofs.Common.{◌≡◌, arith, refl}
use Rattle.std.proofs.lemmas.Option.{slice_get-get_or, slice_get_within}
use Rattle.cstn_minset.proofs.ScanLemmas.{are_none_more}
use Rattle.cstn_minset.proofs.scan.bound_in.Goals as goal

pub returns-in-Some-clause-some : goal.returns-in-Some-clause-some
returns-in-Some-clause-some c =
    let here = rw (← c.page-item.is) at (slice_get-get_or c.pages-page-items.result.now c.loop-page.page-index c.page-item.result (omega (arith, c.loop-page-test.true))) in
    let found = c.in-Some.ensures.some in
    record {
      head = c.page-item.result.head;
      page = c.loop-page.page-index;
      place = found.0;
      record_is = found.1;
      there = (c.page-item.result, rw (← c.pages-page-items.ensures.pages) here, refl, found.2);
      slot_is = found.3;
      bound_is = found.4;
    }

pub loop-page-preserved : goal.loop-page-preserved
loop-page-preserved c =
    let here = rw (← c.page-item.is) at (slice_get-get_or c.pages-page-items.result.now c.loop-page.page-index c.page-item.result (omega (arith, c.loop-page-test.true))) in
    are_none_more _ _ (λ r. r.slot ≡ c.args.slot) c.page-item.result c.loop-page.invariant here c.in_default.ensures.none

pub returns-clause-none : goal.returns-clause-none
returns-clause-none c = λ h k i r at.
    let there = rw (← c.pages-page-items.ensures.pages) at at.1 in
    let within = slice_get_within c.pages-page-items.result.now k at.0 there in
    c.loop-page.invariant k at.0 (omega (arith, within, c.loop-page-test.false)) there i r at.3
