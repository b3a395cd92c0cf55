use Rattle.std.proofs.Common.{ℕ, ◌<◌}
use Rattle.std.specs.Prelude.{map}
use Rattle.cstn_label.specs.Read.{marks}
use Rattle.cstn_net.specs.Read.{the_network}
use Rattle.cstn_lift.specs.Labelled.{label_in}
use Rattle.cstn_lift.specs.Faults.{ObservesMark}
use Rattle.cstn_lift.proofs.scans.first_in_circle.Given as goal

abbrev pub invariant-loop-x : goal.invariant-loop-x
invariant-loop-x l = (y : ℕ) → y < l.x → ObservesMark (the_network l.net) (label_in (map marks l.labels) y) y → ⊥
