use Rattle.std.proofs.Common.{Option, ◌≡◌, ◌∙◌, ap, sym, subst}
use Rattle.std.specs.Prelude.{IfSome}
use Rattle.cstn_net.specs.Read.{the_network}
use Rattle.cstn_plan.specs.Plans.{PlanParts}
use Rattle.cstn_lift.specs.Lowered.{lowered}
use Rattle.cstn_lift.specs.Read.{LabelledParts, the_labelled}
use Rattle.rehearsal.proofs.labelled.guide_of.Goals as goal

pub start-requires : goal.start-requires
start-requires c =
    let same : c.in-Some.plan.net ≡ c.split-net.result.0 = subst (λ (found : Option PlanParts). IfSome found (λ (plan : PlanParts). plan.net ≡ c.split-net.result.0)) c.in-Some.is c.in_ok-plan.ensures.network in
    record { lowered = ap the_network same ∙ c.split-net.ensures.lowered ∙ ap (λ (l : LabelledParts). lowered (the_labelled l)) (sym c.split-net.ensures.labels) }
