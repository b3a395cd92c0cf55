use Rattle.std.proofs.Common.{ℕ, ◌≡◌, ◌<◌, ◌≤◌, ◌+◌, true}
use Rattle.cstn_net.specs.Read.{the_network}
use Rattle.cstn_exec.specs.Runs.{is_outcome_ready}
use Rattle.cstn_exec.proofs.executive.Executive.next_ready.Given as goal

abbrev pub invariant-loop-index : goal.invariant-loop-index
invariant-loop-index l = record {
  later : l.t < l.next;
  same : (w p : ℕ) → p < l.index → l.t ≤ w → w < l.next → is_outcome_ready (the_network l.self.net) l.self.run (w + 1) p ≡ true →
      is_outcome_ready (the_network l.self.net) l.self.run (l.t + 1) p ≡ true;
}
