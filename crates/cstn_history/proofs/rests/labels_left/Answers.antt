use Rattle.std.proofs.Common.{◌<◌, arith, subst, sym}
use Rattle.std.specs.Prelude.{slice_index_or}
use Rattle.std.proofs.lemmas.List.{get_or_default}
use Rattle.cstn_net.specs.Networks.{count}
use Rattle.cstn_lift.specs.Read.{the_labelled}
use Rattle.cstn_history.specs.Read.{the_history}
use Rattle.cstn_history.proofs.Points.{places, old_inside, stands_there}
use Rattle.cstn_history.proofs.rests.labels_left.Goals as goal

pub label-requires : goal.label-requires
label-requires c =
    let m = the_labelled c.args.network.now in
    let h = the_history c.args.history.now in
    let points = c.args.points.now in
    let i = c.loop-x.x-index in
    let x = slice_index_or points i (record { 0 = 0 }) in
    let inside = c.loop-x-test.true in
    let long = places m h c.requires.labelled c.requires.kept.history c.requires.kept.in_time points c.requires.points in
    let at = stands_there m h points i x c.requires.points inside (get_or_default points i (record { 0 = 0 }) x inside) in
    subst (λ y. y < count m.base) (sym at) (old_inside m h c.requires.labelled c.requires.kept.history c.requires.kept.in_time i (omega arith))
