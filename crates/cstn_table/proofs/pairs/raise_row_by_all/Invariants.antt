use Rattle.std.proofs.Common.{ℕ, ◌<◌}
use Rattle.cstn_net.specs.Read.{the_network}
use Rattle.cstn_table.specs.Raises.{IsWalk, IsNoLater}
use Rattle.cstn_table.proofs.pairs.raise_row_by_all.Given as goal

abbrev pub invariant-loop-other : goal.invariant-loop-other
invariant-loop-other l = IsWalk (the_network l.net) (λ ts. (i : ℕ) → i < l.other → IsNoLater (the_network l.net) l.row i ts)
    l.initial.moments l.moments l.raised
