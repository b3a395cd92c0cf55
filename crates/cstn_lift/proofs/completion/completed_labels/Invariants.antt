use Rattle.std.proofs.Common.{◌≡◌, length, take, vec_len}
use Rattle.std.specs.Prelude.{map}
use Rattle.std.specs.Vec.{vec_capacity}
use Rattle.cstn_label.specs.Read.{marks}
use Rattle.cstn_lift.specs.Completion.{completed}
use Rattle.cstn_lift.specs.Read.{with_labels}
use Rattle.cstn_lift.proofs.completion.completed_labels.Given as goal

abbrev pub invariant-loop-label : goal.invariant-loop-label
invariant-loop-label l = record {
  so_far : map marks l.whole.items ≡ map (completed (with_labels l.net l.labels)) (map marks (take l.label-index l.labels));
  len : vec_len l.whole ≡ l.label-index;
  room : vec_capacity l.whole ≡ length l.labels;
}
