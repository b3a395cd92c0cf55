use Rattle.std.proofs.Common.{ℕ, ◌<◌, ◌≤◌, min}
use Rattle.cstn_net.specs.Networks.{count}
use Rattle.cstn_net.specs.Read.{the_network}
use Rattle.cstn_table.specs.Tables.{row_at}
use Rattle.cstn_table.specs.Raises.{IsWalk}
use Rattle.cstn_table.proofs.pairs.raise_row.Given as goal

abbrev pub invariant-loop-x : goal.invariant-loop-x
invariant-loop-x l = IsWalk (the_network l.net) (λ ts. (y : ℕ) → y < l.x →
    min (row_at (count (the_network l.net)) ts l.other y) l.apart ≤ row_at (count (the_network l.net)) ts l.row y)
    l.initial.moments l.moments l.raised
