use Rattle.cstn_lift.specs.Read.{the_labelled}
use Rattle.cstn_follow.specs.Executions.{ExecutionParts}
use Rattle.cstn_follow.proofs.SteppedSession.{stepped_execution}
use Rattle.cstn_follow.proofs.executions.Execution.stepped.Goals as goal

pub invariant_of-result : goal.invariant_of-result
invariant_of-result c =
    let w = c.self.inside in
    let e : ExecutionParts = record { network = w.network; history = w.history; fresh = w.fresh } in
    let order = c.labelled_network_is_in_order-2.ensures in
    stepped_execution e c.in-Ok.network c.in-Ok-with_place.history c.self.invariant order.labelled order.few
    (c.steps_keep_histories.ensures.kept (the_labelled w.network) w.history c.self.invariant.labelled c.self.invariant.kept)
    c.in-Ok.ensures.stepped c.in-Ok-with_place.ensures.placed

pub returns-clause-execution : goal.returns-clause-execution
returns-clause-execution c = invariant_of-result c
