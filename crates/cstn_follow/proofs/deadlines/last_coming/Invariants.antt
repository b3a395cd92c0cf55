use Rattle.std.proofs.Common.{◌≡◌, ◌≤◌, drop, length}
use Rattle.cstn_plan.specs.Asked.{greatest}
use Rattle.cstn_plan.specs.Plans.{the_bounds}
use Rattle.cstn_follow.proofs.Coming.{may_come}
use Rattle.cstn_follow.proofs.deadlines.last_coming.Given as goal

abbrev pub invariant-loop-k : goal.invariant-loop-k
invariant-loop-k l = record {
  upto : l.k ≤ length l.fn.plan.bounds;
  last : l.last ≡ greatest (may_come l.fn.labels) (the_bounds (drop l.k l.fn.plan.bounds));
}

abbrev pub decreases-loop-k : goal.decreases-loop-k
decreases-loop-k l = l.k
