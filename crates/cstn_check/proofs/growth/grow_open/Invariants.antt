use Rattle.std.proofs.Common.{◌≤◌, ◌+◌, ◌*◌, ◌-◌, false, length}
use Rattle.cstn_net.specs.Read.{the_network}
use Rattle.cstn_log.specs.Entries.{the_entries}
use Rattle.cstn_check.specs.Growth.{grown}
use Rattle.cstn_check.specs.Spent.{AreSpent, fresh_count}
use Rattle.cstn_check.specs.Turns.{IsOpen, HasBecome}
use Rattle.cstn_check.proofs.CostLemmas.{turn_costs}
use Rattle.cstn_check.proofs.TryLemmas.{waits_of}
use Rattle.cstn_check.proofs.growth.grow_open.Given as goal

abbrev pub invariant-loop-j : goal.invariant-loop-j
invariant-loop-j l = record {
  taken : HasBecome (the_network l.fn.net) l.fn.log l.log (grown (the_network l.fn.net) (the_entries l.fn.log.entries) l.j) false;
  ready : IsOpen (the_network l.fn.net) l.log;
  tries : l.fn.tries.count ≤ l.tries.count;
  turns : l.j ≤ length l.log.entries;
  most : l.tries.count ≤ l.fn.tries.count + turn_costs (length l.fn.net.constraints) (fresh_count l.fn.fresh (the_network l.fn.net).constraints) l.fn.old (length l.log.entries) l.j;
  concluding : l.tries.count ≤ l.fn.tries.count + (length (the_network l.fn.net).constraints * l.j + waits_of (the_network l.fn.net) (the_entries l.log.entries) l.j);
  spent : AreSpent (the_network l.fn.net) (the_entries l.log.entries) l.fn.fresh l.fn.old;
}

abbrev pub decreases-loop-j : goal.decreases-loop-j
decreases-loop-j l = l.fn.log.cap - l.j
