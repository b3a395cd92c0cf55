use Rattle.std.proofs.Common.{◌≡◌, subst}
use Rattle.std.specs.Prelude.{◌↔◌, IsNone, IfSome}
use Rattle.cstn_net.specs.Networks.{Network}
use Rattle.cstn_plan.specs.Plans.{the_bounds}
use Rattle.cstn_lift.specs.Lowered.{lowered}
use Rattle.cstn_lift.specs.Read.{the_labelled}
use Rattle.cstn_exec.specs.Runs.{due}
use Rattle.cstn_exec.specs.Right.{IsDue, IsDone}
use Rattle.cstn_exec.specs.GuideRead.{GuideParts}
use Rattle.cstn_exec.specs.Sound.{IsLed}
use Rattle.cstn_exec.proofs.Timely.{on_time, led}
use Rattle.cstn_exec.proofs.GuideSteps.{if_none}
use Rattle.cstn_exec.proofs.guides.Guide.due.Goals as goal

pub returns-clause-due : goal.returns-clause-due
returns-clause-due c =
    subst (λ (v : GuideParts). c.due.result ≡ due (lowered (the_labelled v.labelled)) (the_bounds v.bounds) v.state.run) c.self.view_is
    (subst (λ (n : Network). c.due.result ≡ due n (the_bounds c.self.inside.executive.bounds) c.self.inside.executive.run) c.self.invariant.lowered c.due.ensures.due)

pub returns-clause-none : goal.returns-clause-none
returns-clause-none c =
    subst (λ (v : GuideParts). IsNone c.due.result ↔ IsDone (lowered (the_labelled v.labelled)) v.state.run) c.self.view_is
    (subst (λ (n : Network). IsNone c.due.result ↔ IsDone n c.self.inside.executive.run) c.self.invariant.lowered c.due.ensures.none)

pub returns-clause-first : goal.returns-clause-first
returns-clause-first c =
    subst (λ (v : GuideParts). IfSome c.due.result (λ t. IsDue (lowered (the_labelled v.labelled)) v.state.run t)) c.self.view_is
    (subst (λ (n : Network). IfSome c.due.result (λ t. IsDue n c.self.inside.executive.run t)) c.self.invariant.lowered c.due.ensures.first)

pub returns-clause-on_time : goal.returns-clause-on_time
returns-clause-on_time c =
    let is = c.is_guided.ensures in
    on_time (the_labelled c.args.self.now.labelled) is.planned.labelled is.planned.well_formed c.args.self.now.state is.guided

pub returns-clause-led : goal.returns-clause-led
returns-clause-led c =
    let is = c.is_guided.ensures in
    let m = the_labelled c.args.self.now.labelled in
    if_none c.due.result (IsLed m c.args.self.now.state) (λ none.
    led m is.planned.labelled is.planned.well_formed c.args.self.now.state is.guided (the_bounds c.args.self.now.bounds) is.planned.table is.planned.earliest
    ((returns-clause-none c).0 none))
