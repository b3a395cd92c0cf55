use Rattle.cstn_net.specs.Read.{the_network}
use Rattle.cstn_table.specs.Raises.{IsLow, room}
use Rattle.cstn_table.proofs.decisions.settle.Given as goal

abbrev pub invariant-loop : goal.invariant-loop
invariant-loop l = IsLow (the_network l.net) l.moments

abbrev pub decreases-loop : goal.decreases-loop
decreases-loop l = room l.moments
