use Rattle.std.proofs.Common.{sym, ap, ◌∙◌}
use Rattle.cstn_net.specs.Read.{the_network}
use Rattle.cstn_lift.specs.Lowered.{lowered}
use Rattle.cstn_lift.specs.Read.{LabelledParts, the_labelled}
use Rattle.tests_networks.proofs.guide.guide.Goals as goal

pub start-requires : goal.start-requires
start-requires g c = record {
  lowered = ap the_network c.planned-plan.ensures ∙ c.split-net.ensures.lowered
      ∙ ap (λ (l : LabelledParts). lowered (the_labelled l)) (sym c.split-net.ensures.labels);
}
