use Rattle.cstn_net.specs.Read.{the_network}
use Rattle.cstn_plan.specs.Asked.{asked}
use Rattle.cstn_plan.specs.Plans.{the_bounds}
use Rattle.cstn_plan.proofs.Strategies.{asked_strategy}
use Rattle.cstn_plan.proofs.plans.Plan.network.Goals as goal

pub returns-clause-consistent : goal.returns-clause-consistent
returns-clause-consistent c =
    let net = the_network c.self.inside.net in
    let bounds = the_bounds c.self.inside.bounds.items in
    (asked net bounds, asked_strategy net bounds c.self.invariant.well_formed.network c.self.invariant.closed)
