use Rattle.std.proofs.Common.{ℕ, ◌<◌}
use Rattle.cstn_net.specs.Read.{the_network, the_constraint}
use Rattle.cstn_table.specs.Raises.{IsWalk, MeetsIn}
use Rattle.cstn_table.proofs.raises.raise_starts.Given as goal

abbrev pub invariant-loop-row : goal.invariant-loop-row
invariant-loop-row l = IsWalk (the_network l.net) (λ ts. (i : ℕ) → i < l.row → MeetsIn (the_network l.net) i (the_constraint l.c) ts)
    l.initial.moments l.moments l.raised
