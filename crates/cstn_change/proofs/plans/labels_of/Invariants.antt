use Rattle.std.proofs.Common.{◌≡◌, take}
use Rattle.std.specs.Prelude.{map}
use Rattle.cstn_label.specs.Read.{marks}
use Rattle.cstn_lift.specs.Read.{the_labelled}
use Rattle.cstn_change.proofs.plans.labels_of.Given as goal

abbrev pub invariant-loop-x : goal.invariant-loop-x
invariant-loop-x l = map marks l.labels.items ≡ take l.x (the_labelled l.network).labels
