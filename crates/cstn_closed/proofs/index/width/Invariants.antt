use Rattle.std.proofs.Common.{◌<◌, ◌≤◌, take}
use Rattle.std.specs.List.{All}
use Rattle.cstn_label.specs.Limits.{most_ids}
use Rattle.cstn_closed.proofs.index.width.Given as goal

abbrev pub invariant-loop-b : goal.invariant-loop-b
invariant-loop-b l = record {
  small : l.width ≤ most_ids;
  all : All (λ b. b.node.0 < l.width) (take l.b-index l.bounds);
}
