use Rattle.std.proofs.Common.{◌≡◌, take, map}
use Rattle.cstn_label.specs.Read.{the_bound}
use Rattle.cstn_closed.specs.Marking.{marking}
use Rattle.cstn_closed.proofs.marks.places_marking.Given as goal

abbrev pub invariant-loop-place : goal.invariant-loop-place
invariant-loop-place l = l.places.items ≡ marking l.p.index (map the_bound (take l.place l.bounds))
