use Rattle.std.proofs.Common.{ℕ, ◌<◌}
use Rattle.cstn_net.specs.Read.{the_network}
use Rattle.cstn_table.specs.Raises.{IsWalk, IsNoLater, rows}
use Rattle.cstn_table.proofs.pairs.raise_by_scenarios.Given as goal

abbrev pub invariant-loop-row : goal.invariant-loop-row
invariant-loop-row l = IsWalk (the_network l.net) (λ ts. (i : ℕ) → i < l.row → (other : ℕ) → other < rows (the_network l.net) →
    IsNoLater (the_network l.net) i other ts) l.initial.moments l.moments l.raised
