use Rattle.std.proofs.Common.{subst}
use Rattle.cstn_net.specs.Networks.{Network, IsWellFormed}
use Rattle.cstn_net.specs.Strategies.{Table}
use Rattle.cstn_plan.specs.Plans.{IsEarliest, the_bounds}
use Rattle.cstn_lift.specs.Read.{the_labelled}
use Rattle.cstn_exec.specs.Sound.{IsPlanned}
use Rattle.cstn_exec.specs.GuideRead.{GuideParts}
use Rattle.cstn_exec.proofs.guides.Guide.is_guided.Goals as goal

pub returns-clause-planned : goal.returns-clause-planned
returns-clause-planned c =
    let bounds = the_bounds c.self.inside.executive.bounds in
    let plan = subst (λ (n : Network). (table : Table) × IsEarliest n bounds table) c.self.invariant.lowered c.network.ensures.earliest in
    subst (λ (v : GuideParts). IsPlanned (the_labelled v.labelled) (the_bounds v.bounds)) c.self.view_is (record {
      labelled = c.self.invariant.labelled;
      well_formed = subst IsWellFormed c.self.invariant.lowered c.network.ensures.well_formed;
      table = plan.0;
      earliest = plan.1;
    })
