use Rattle.std.proofs.Common.{◌≡◌, take}
use Rattle.std.specs.Prelude.{map}
use Rattle.cstn_label.specs.Read.{marks}
use Rattle.cstn_lift.specs.Labelled.{label_of}
use Rattle.cstn_lift.specs.Read.{the_labelled}
use Rattle.cstn_history.specs.Histories.{label_left}
use Rattle.cstn_history.specs.Read.{the_history}
use Rattle.cstn_history.proofs.rests.labels_left.Given as goal

abbrev pub invariant-loop-x : goal.invariant-loop-x
invariant-loop-x l =
    map marks l.labels.items ≡ map (λ x. label_left (the_history l.history) (label_of (the_labelled l.network) x)) (map (λ x. x.0) (take l.x-index l.points))
