use Rattle.std.proofs.Common.{◌≤◌, ◌-◌}
use Rattle.cstn_net.specs.Read.{the_network}
use Rattle.cstn_plan.specs.Plans.{the_bounds}
use Rattle.cstn_exec.specs.Runs.{next}
use Rattle.cstn_exec.proofs.Running.{IsQuiet}
use Rattle.cstn_exec.proofs.executive.Executive.first_due.Given as goal

abbrev pub decreases-loop-asked : goal.decreases-loop-asked
decreases-loop-asked l = 4294967296 - l.t

abbrev pub invariant-loop-asked : goal.invariant-loop-asked
invariant-loop-asked l = record {
  from : next l.self.run ≤ l.t;
  quiet : IsQuiet (the_network l.self.net) (the_bounds l.self.bounds) l.self.run l.t;
}
