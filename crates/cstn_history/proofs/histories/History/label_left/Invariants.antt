use Rattle.std.proofs.Common.{ℕ, ◌≡◌, ◌<◌, ◌≤◌, ◌-◌}
use Rattle.cstn_label.specs.Read.{marks, known_value}
use Rattle.cstn_history.specs.Histories.{mark_left}
use Rattle.cstn_history.proofs.histories.History.label_left.Given as goal

abbrev pub invariant-loop-p : goal.invariant-loop-p
invariant-loop-p l = record {
  range : l.from ≤ 52;
  before : (q : ℕ) → q < l.from → marks l.left q ≡ mark_left (known_value l.self.told q) (marks l.label q);
  ahead : (q : ℕ) → l.from ≤ q → marks l.left q ≡ marks l.label q;
}

abbrev pub decreases-loop-p : goal.decreases-loop-p
decreases-loop-p l = 52 - l.from
