use Rattle.std.proofs.Common.{subst, sym}
use Rattle.cstn_net.specs.Strategies.{Table}
use Rattle.cstn_net.specs.Read.{NetworkParts, the_network}
use Rattle.cstn_plan.specs.Asked.{AllSound, asked}
use Rattle.cstn_plan.specs.Plans.{PlanParts, the_bounds, IsEarliest}
use Rattle.cstn_plan.proofs.PlanLemmas.{asked_earliest}
use Rattle.cstn_plan.proofs.plans.SoundPlan.network.Goals as goal

pub returns-clause-earliest : goal.returns-clause-earliest
returns-clause-earliest c =
    let net = the_network c.network.result.now in
    let bounds = the_bounds c.self.inside.plan.bounds in
    let sound = subst (λ (n : NetworkParts). AllSound (the_network n) bounds) (sym c.network.ensures.network) c.self.invariant in
    subst (λ (v : PlanParts). (table : Table) × IsEarliest net (the_bounds v.bounds) table) c.self.view_is
    (asked net bounds, asked_earliest net bounds c.network.ensures.well_formed.network c.network.ensures.closed sound)
