use Rattle.std.proofs.Common.{◌∙◌, ap}
use Rattle.cstn_closed.proofs.MarkingLemmas.{place_put, place_kept}
use Rattle.cstn_closed.proofs.marks.places_marking.Goals as goal
use Rattle.cstn_closed.proofs.marks.places_marking.Goals.{then-is_marked+in_ok-push, else-is_marked}

pub loop-place-preserved : goal.loop-place-preserved
loop-place-preserved c = elim c.if-is_marked.branch [
  | then-is_marked+in_ok-push w ↦
      place_put c.args.p.index c.args.bounds.now c.loop-place.place c.index-bounds-place.result c.loop-place.places.items c.if-is_marked.places.items c.is_marked.result
      c.loop-place-test.true c.index-bounds-place.is c.is_marked.ensures.marked w.if-is_marked.true c.loop-place.invariant
      (ap (λ v. v.items) w.places-is ∙ w.in_ok-push.ensures.items)
  | else-is_marked w ↦
      place_kept c.args.p.index c.args.bounds.now c.loop-place.place c.index-bounds-place.result c.loop-place.places.items c.if-is_marked.places.items c.is_marked.result
      c.loop-place-test.true c.index-bounds-place.is c.is_marked.ensures.marked w.if-is_marked.false c.loop-place.invariant
      (ap (λ v. v.items) w.places-is)
]
