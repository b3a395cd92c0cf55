use Rattle.std.proofs.Common.{◌≤◌, ◌+◌, ◌-◌, false}
use Rattle.cstn_net.specs.Read.{the_network}
use Rattle.cstn_log.specs.Entries.{the_entries}
use Rattle.cstn_check.specs.Growth.{tried, waits_below}
use Rattle.cstn_check.specs.Tries.{total, concludes_with}
use Rattle.cstn_label.specs.Read.{the_bound}
use Rattle.cstn_check.specs.Waits.{HasBound, IsAhead}
use Rattle.cstn_check.specs.Turns.{IsOpen, HasBecome}
use Rattle.cstn_check.specs.Steps.{IsCounted}
use Rattle.cstn_check.proofs.waits.try_waits.Given as goal

abbrev pub invariant-loop-i : goal.invariant-loop-i
invariant-loop-i l = record {
  taken : HasBecome (the_network l.fn.net) l.fn.log l.log (tried (the_network l.fn.net) (the_entries l.fn.log.entries) (waits_below l.i l.fn.j)) false;
  ready : IsOpen (the_network l.fn.net) l.log;
  upto : l.i ≤ l.fn.j + 1;
  counted : IsCounted l.fn.tries.count l.tries.count (total (concludes_with (the_network l.fn.net) (the_entries l.fn.log.entries) l.fn.j) l.i);
  bound : HasBound l.log.entries l.fn.j (the_bound l.own.bound);
  ahead : l.i ≤ l.fn.j → IsAhead (the_network l.fn.net) l.log l.fn.j (l.i + 1);
}

abbrev pub decreases-loop-i : goal.decreases-loop-i
decreases-loop-i l = l.fn.j + 1 - l.i
