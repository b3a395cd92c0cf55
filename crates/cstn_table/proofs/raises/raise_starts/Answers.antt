use Rattle.cstn_net.specs.Read.{the_network, the_constraint}
use Rattle.cstn_table.specs.Raises.{MeetsIn}
use Rattle.cstn_table.proofs.WalkLemmas.{one_more}
use Rattle.cstn_table.proofs.raises.raise_starts.Goals as goal

pub loop-row-preserved : goal.loop-row-preserved
loop-row-preserved c =
    let net = the_network c.args.net.now in
    one_more net (λ i ts. MeetsIn net i (the_constraint c.args.c.now) ts) c.loop-row.row c.args.moments.now c.loop-row.moments
    c.raise_start.new.moments c.loop-row.raised c.in_ok-raised.field-0 c.loop-row.invariant c.in_ok-raised.ensures.some
