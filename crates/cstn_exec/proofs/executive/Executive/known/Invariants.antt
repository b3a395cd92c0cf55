use Rattle.std.proofs.Common.{◌+◌}
use Rattle.cstn_net.specs.Read.{the_network}
use Rattle.cstn_exec.specs.Runs.{known}
use Rattle.cstn_exec.proofs.Values.{KnownBelow}
use Rattle.cstn_exec.proofs.executive.Executive.known.Given as goal

abbrev pub invariant-loop-index : goal.invariant-loop-index
invariant-loop-index l = KnownBelow (known (the_network l.fn.self.net) l.fn.self.run (l.fn.t + 1)) l.known l.index
