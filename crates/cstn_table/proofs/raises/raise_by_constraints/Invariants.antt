use Rattle.std.proofs.Common.{ℕ, ◌≡◌, ◌<◌}
use Rattle.std.proofs.Common.{get_or}
use Rattle.cstn_net.specs.Networks.{Constraint}
use Rattle.cstn_net.specs.Read.{the_network}
use Rattle.cstn_table.specs.Raises.{IsWalk, MeetsIn, rows}
use Rattle.cstn_table.proofs.raises.raise_by_constraints.Given as goal

abbrev pub invariant-loop-c : goal.invariant-loop-c
invariant-loop-c l = IsWalk (the_network l.net) (λ ts. (i : ℕ) → i < l.c-index → (c : Constraint) →
    get_or (the_network l.net).constraints i c ≡ c → (row : ℕ) → row < rows (the_network l.net) → MeetsIn (the_network l.net) row c ts)
    l.initial.moments l.moments l.raised
