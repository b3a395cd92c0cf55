use Rattle.std.proofs.Common.{ℕ, ◌<◌, ◌≤◌, ◌-◌}
use Rattle.cstn_label.specs.Labels.{IsMarked, IsWithin}
use Rattle.cstn_label.specs.Read.{marks}
use Rattle.cstn_net.specs.Networks.{Observes, count}
use Rattle.cstn_lift.specs.Labelled.{label_of}
use Rattle.cstn_lift.specs.Completion.{joined_upto}
use Rattle.cstn_lift.specs.Read.{the_labelled}
use Rattle.cstn_history.proofs.completion.with_observers.Given as goal

abbrev pub invariant-loop-p : goal.invariant-loop-p
invariant-loop-p l = record {
  range : l.from ≤ 52;
  contains : IsWithin (marks l.label) (marks l.joined);
  joined : (x p : ℕ) → p < l.from → Observes (the_labelled l.network).base x p → IsMarked (marks l.label) p →
      IsWithin (label_of (the_labelled l.network) x) (marks l.joined);
  upto : IsWithin (marks l.joined) (joined_upto (the_labelled l.network) (count (the_labelled l.network).base) (marks l.label));
}

abbrev pub decreases-loop-p : goal.decreases-loop-p
decreases-loop-p l = 52 - l.from
