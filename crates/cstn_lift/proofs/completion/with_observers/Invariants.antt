use Rattle.std.proofs.Common.{ℕ, ◌<◌, ◌≤◌, ◌-◌}
use Rattle.cstn_label.specs.Labels.{IsMarked, IsWithin}
use Rattle.cstn_label.specs.Read.{marks}
use Rattle.cstn_net.specs.Networks.{Observes, count}
use Rattle.cstn_net.specs.Read.{the_network}
use Rattle.cstn_lift.specs.Labelled.{label_of}
use Rattle.cstn_lift.specs.Completion.{joined_upto}
use Rattle.cstn_lift.specs.Read.{with_labels}
use Rattle.cstn_lift.proofs.completion.with_observers.Given as goal

abbrev pub invariant-loop-p : goal.invariant-loop-p
invariant-loop-p l = record {
  range : l.from ≤ 52;
  contains : IsWithin (marks l.label) (marks l.joined);
  joined : (x p : ℕ) → p < l.from → Observes (the_network l.net) x p → IsMarked (marks l.label) p →
      IsWithin (label_of (with_labels l.net l.labels) x) (marks l.joined);
  upto : IsWithin (marks l.joined) (joined_upto (with_labels l.net l.labels) (count (the_network l.net)) (marks l.label));
}

abbrev pub decreases-loop-p : goal.decreases-loop-p
decreases-loop-p l = 52 - l.from
