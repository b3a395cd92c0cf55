use Rattle.std.proofs.Common.{subst}
use Rattle.cstn_label.specs.Read.{the_bound}
use Rattle.cstn_net.specs.Strategies.{Table, IsStrategy}
use Rattle.cstn_net.specs.Bounds.{HoldsIn}
use Rattle.cstn_net.specs.Read.{the_network}
use Rattle.cstn_plan.specs.Plans.{PlanParts}
use Rattle.cstn_plan.proofs.PlanLemmas.{bound_there}
use Rattle.cstn_plan.proofs.plans.SoundPlan.bound.Goals as goal

pub returns-clause-holds : goal.returns-clause-holds
returns-clause-holds c =
    subst (λ (v : PlanParts). (table : Table) → IsStrategy (the_network v.net) table → HoldsIn (the_network v.net) table (the_bound c.bound.result)) c.self.view_is
    (λ table strategy. c.self.invariant table strategy (the_bound c.bound.result) (bound_there c.self.inside.plan.bounds _ c.bound.result c.bound.ensures.bound))
