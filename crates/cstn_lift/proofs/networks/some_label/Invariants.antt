use Rattle.std.proofs.Common.{ℕ, ◌≡◌, ◌<◌}
use Rattle.std.specs.Prelude.{map}
use Rattle.cstn_label.specs.Labels.{empty}
use Rattle.cstn_label.specs.Read.{marks}
use Rattle.cstn_lift.specs.Labelled.{label_in}
use Rattle.cstn_lift.proofs.networks.some_label.Given as goal

abbrev pub invariant-loop-label : goal.invariant-loop-label
invariant-loop-label l = (y : ℕ) → y < l.label-index → label_in (map marks l.labels) y ≡ empty
