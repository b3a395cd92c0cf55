use Rattle.std.proofs.Common.{◌+◌, ◌<◌, arith, sym, subst}
use Rattle.std.specs.Prelude.{◌↔◌}
use Rattle.cstn_label.specs.Read.{the_scenario}
use Rattle.cstn_net.specs.Networks.{count}
use Rattle.cstn_net.specs.Read.{the_network}
use Rattle.cstn_table.specs.Tables.{row_at}
use Rattle.cstn_table.proofs.PairLemmas.{IsAlikeBelow, alike_more, alike_agrees}
use Rattle.cstn_table.proofs.pairs.told_apart.Goals as goal

pub loop-x-preserved : goal.loop-x-preserved
loop-x-preserved c t small =
    let net = the_network c.args.net.now in
    let at = row_at (count net) c.args.moments.now c.args.row in
    subst (λ a. IsAlikeBelow net (row_at (count net) c.args.moments.now c.args.row) (the_scenario c.args.s) (the_scenario c.args.r) t (c.loop-x.x + 1) ↔ (t < a))
    (sym c.min-apart.ensures)
    (alike_more net at (the_scenario c.args.s) (the_scenario c.args.r) t c.loop-x.x c.loop-x.apart c.told_apart_by.result
    (c.loop-x.invariant t small) (c.told_apart_by.ensures t small))

pub returns : goal.returns
returns c t small =
    let net = the_network c.args.net.now in
    let counted = c.count-x-end.ensures.count in
    let last = c.loop-x-test.false in
    alike_agrees net (c.observers_are_time_points.ensures.within net) (row_at (count net) c.args.moments.now c.args.row) (the_scenario c.args.s) (the_scenario c.args.r) t c.loop-x.x
    c.loop-x.apart (omega arith) (c.loop-x.invariant t small)
