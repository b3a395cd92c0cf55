use Rattle.std.proofs.Common.{ℕ, ◌<◌}
use Rattle.cstn_net.specs.Read.{the_network}
use Rattle.cstn_table.specs.Raises.{IsNoLater, rows}
use Rattle.cstn_table.proofs.WalkLemmas.{one_more}
use Rattle.cstn_table.proofs.pairs.raise_by_scenarios.Goals as goal

pub loop-row-preserved : goal.loop-row-preserved
loop-row-preserved c =
    let net = the_network c.args.net.now in
    one_more net (λ i ts. (other : ℕ) → other < rows net → IsNoLater net i other ts) c.loop-row.row c.args.moments.now c.loop-row.moments
    c.raise_row_by_all.new.moments c.loop-row.raised c.in_ok-raised.field-0 c.loop-row.invariant c.in_ok-raised.ensures.some
