use Rattle.std.proofs.Common.{subst, ap, ◌∙◌}
use Rattle.cstn_net.specs.Networks.{Network}
use Rattle.cstn_lift.specs.Labelled.{Labelled}
use Rattle.cstn_lift.specs.Lowered.{lowered}
use Rattle.cstn_lift.specs.Read.{the_labelled}
use Rattle.cstn_history.specs.Read.{the_history}
use Rattle.cstn_follow.specs.Findings.{IsFindingOn}
use Rattle.cstn_follow.proofs.Found.{found_left}
use Rattle.cstn_follow.proofs.findings.finding_left.Goals as goal

pub returns-in-Ok-finding_on-clause-finding : goal.returns-in-Ok-finding_on-clause-finding
returns-in-Ok-finding_on-clause-finding c =
    subst (λ (n : Network). IsFindingOn c.args.cap.entries n c.in-Ok-finding_on.finding)
    (c.split-net.ensures.lowered ∙ ap (λ (m : Labelled). lowered m) c.in-Ok.ensures.rest) c.in-Ok-finding_on.ensures

pub returns-in-Ok-finding_on-clause-verdict : goal.returns-in-Ok-finding_on-clause-verdict
returns-in-Ok-finding_on-clause-verdict c =
    found_left (the_labelled c.args.network.now) (the_history c.args.history.now) c.args.fresh c.args.cap.entries c.in-Ok-finding_on.finding
    c.labelled_network_is_in_order.ensures.few c.in-Ok.ensures.few (returns-in-Ok-finding_on-clause-finding c)
