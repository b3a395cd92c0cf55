use Rattle.std.proofs.Common.{◌+◌, List, length, map, sym, subst, ap, ◌∙◌}
use Rattle.std.proofs.Math.Seq.{take_all}
use Rattle.cstn_label.specs.declared.bounds.Bound.{Bound}
use Rattle.cstn_label.specs.Read.{the_bound}
use Rattle.cstn_closed.specs.Minimal.{AreKept, AreFresh, IsPut}
use Rattle.cstn_closed.proofs.KeepLemmas.{AreKeptUpto, next_put, next_still}
use Rattle.cstn_closed.proofs.index.keep.Goals as goal
use Rattle.cstn_closed.proofs.index.keep.Goals.{then-not-covers+in_ok-put+in_ok-push, else-not-covers}

pub loop-place-preserved : goal.loop-place-preserved
loop-place-preserved c =
    let xs = c.args.bounds.now in
    let k = c.loop-place.place in
    let x = c.index-bounds-place.result in
    let lists = c.loop-place.minimal.lists.items in
    let places = c.loop-place.fresh.items in
    let upto = c.loop-place.invariant.upto in
    elim c.if-not-covers.branch [
      | then-not-covers+in_ok-put+in_ok-push w ↦ record {
        wide = ap (λ m. length m.lists.items) w.minimal-is ∙ w.in_ok-put.ensures.width ∙ c.loop-place.invariant.wide;
        upto = next_put xs k x lists places c.loop-place-test.true c.index-bounds-place.is upto _ _
            (subst (λ m. IsPut (the_bound x) lists m.lists.items) (sym w.minimal-is) w.in_ok-put.ensures.put) (ap (λ v. v.items) w.fresh-is ∙ w.in_ok-push.ensures.items);
      }
      | else-not-covers w ↦ record {
        wide = ap (λ m. length m.lists.items) w.minimal-is ∙ c.loop-place.invariant.wide;
        upto = subst (λ m. AreKeptUpto xs (k + 1) m.lists.items c.if-not-covers.fresh.items) (sym w.minimal-is)
            (subst (λ v. AreKeptUpto xs (k + 1) lists v.items) (sym w.fresh-is)
            (next_still xs k x lists places c.loop-place-test.true c.index-bounds-place.is upto ((upto.kept (the_bound x)).0 (c.covers.ensures.covers.0 w.if-not-covers.false))));
      }
    ]

pub returns-clause-kept : goal.returns-clause-kept
returns-clause-kept c =
    subst (λ (bs : List Bound). AreKept (map the_bound bs) c.loop-place.minimal.lists.items)
    (take_all c.loop-place.place c.args.bounds.now c.loop-place-test.false) c.loop-place.invariant.upto.kept

pub returns-clause-fresh : goal.returns-clause-fresh
returns-clause-fresh c =
    subst (λ (bs : List Bound). AreFresh (map the_bound bs) c.loop-place.fresh.items)
    (take_all c.loop-place.place c.args.bounds.now c.loop-place-test.false) c.loop-place.invariant.upto.fresh
