use Rattle.std.proofs.Common.{arith}
use Rattle.cstn_net.specs.Read.{the_network}
use Rattle.cstn_table.proofs.RowLemmas.{count_turn}
use Rattle.cstn_table.proofs.rows.count_props.Goals as goal
use Rattle.cstn_table.proofs.rows.count_props.Goals.{then-is_some, else-is_some}

pub loop-x-preserved : goal.loop-x-preserved
loop-x-preserved c =
    let net = the_network c.args.net.now in
    let counted = c.count-x-end.ensures.count in
    let inside = c.loop-x-test.true in
    let so_far = c.loop-x.invariant.so_far in
    let few = c.loop-x.invariant.few in
    let turn = count_turn net.observes c.loop-x.x c.observes.result c.is_some.result (omega arith) c.observes.ensures.observes c.is_some.ensures in
    elim c.if-is_some.branch [
      | then-is_some w ↦
          let is = w.observed-is in
          let found = w.if-is_some.true in
          let next = simp found at turn in
          record { so_far = omega arith; few = omega arith }
      | else-is_some w ↦
          let is = w.observed-is in
          let found = w.if-is_some.false in
          let next = simp found at turn in
          record { so_far = omega arith; few = omega arith }
    ]
