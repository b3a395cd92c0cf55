use Rattle.std.proofs.Common.{ℕ, ◌≡◌, ◌<◌, ◌+◌, false}
use Rattle.cstn_net.specs.Read.{the_network}
use Rattle.cstn_exec.specs.Runs.{is_awaited}
use Rattle.cstn_exec.proofs.executive.Executive.awaited.Given as goal

abbrev pub invariant-loop-index : goal.invariant-loop-index
invariant-loop-index l = (q : ℕ) → q < l.index → is_awaited (the_network l.self.net) l.self.run (l.t + 1) q ≡ false
