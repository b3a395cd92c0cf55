use Rattle.std.proofs.Common.{ℕ, ◌<◌, ◌≤◌, ◌-◌}
use Rattle.cstn_label.specs.Read.{marks}
use Rattle.cstn_net.specs.Observers.{IsUnseen}
use Rattle.cstn_net.proofs.observers.unobserved.Given as goal

abbrev pub invariant-loop-p : goal.invariant-loop-p
invariant-loop-p l = record {
  within : l.from ≤ 52;
  before : (q : ℕ) → q < l.from → IsUnseen l.table (marks l.label) q → ⊥;
}

abbrev pub decreases-loop-p : goal.decreases-loop-p
decreases-loop-p l = 52 - l.from
