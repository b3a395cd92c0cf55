use Rattle.std.proofs.Common.{arith}
use Rattle.cstn_lift.specs.Read.{the_labelled}
use Rattle.cstn_history.specs.Read.{the_history}
use Rattle.cstn_history.specs.Handed.{added_for}
use Rattle.cstn_history.proofs.Made.{adds_turn}
use Rattle.cstn_history.proofs.adding.add_kind.Goals as goal

pub loop-x-preserved : goal.loop-x-preserved
loop-x-preserved c =
    let before = c.loop-x.invariant.few in
    let more = c.in_ok-add_one.ensures.few in
    record {
      adds = adds_turn c.args.fresh c.args.added.now.items c.loop-x.added.items c.add_one.new.added.items
          (added_for (the_labelled c.args.network.now) (the_history c.args.history.now) c.args.kind) c.loop-x.x c.loop-x.invariant.adds c.in_ok-add_one.ensures.added;
      few = omega arith;
    }
