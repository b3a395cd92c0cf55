use Rattle.std.proofs.Common.{arith, ap, ◌∙◌}
use Rattle.cstn_net.specs.Read.{the_network}
use Rattle.cstn_table.specs.Read.{numbers}
use Rattle.cstn_table.proofs.RowLemmas.{props_turn, props_stay}
use Rattle.cstn_table.proofs.rows.props_of.Goals as goal
use Rattle.cstn_table.proofs.rows.props_of.Goals.{in-Some+in_ok-push, in_default}

pub loop-x-preserved : goal.loop-x-preserved
loop-x-preserved c =
    let net = the_network c.args.net.now in
    let counted = c.count-x-end.ensures.count in
    let inside = c.loop-x-test.true in
    elim c.match-observes.branch [
      | in-Some+in_ok-push w ↦
          props_turn net.observes c.loop-x.x c.loop-x.props.items c.match-observes.props.items w.in-Some.p (omega arith)
          w.in-Some.ensures.observes c.loop-x.invariant (ap (λ v. v.items) w.props-is ∙ w.in_ok-push.ensures.items)
      | in_default w ↦
          props_stay net.observes c.loop-x.x c.match-observes.props.items (omega arith) w.in_default.ensures.observes
          (ap (λ v. numbers v.items) w.props-is ∙ c.loop-x.invariant)
    ]
