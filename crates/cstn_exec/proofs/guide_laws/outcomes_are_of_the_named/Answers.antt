use Rattle.cstn_lift.specs.Lowered.{lowered}
use Rattle.cstn_exec.proofs.GuideRefusing.{refused_unnamed}
use Rattle.cstn_exec.proofs.guide_laws.outcomes_are_of_the_named.Goals as goal

pub returns : goal.returns
returns c = record {
  refused = λ m g p wf. refused_unnamed m (λ x q o. c.observers_are_found.ensures.found (lowered m) x q wf.network o)
      (c.observers_are_found.ensures.only (lowered m)) g p;
}
