use Rattle.cstn_headline.proofs.OneOutput.{OneJudgement}
use Rattle.cstn_headline.proofs.Replayed.{check_passes, run_passes, closed_passes, bounds_pass}
use Rattle.cstn_headline.proofs.laws.evidence_passes.Goals as goal

pub returns : goal.returns
returns c =
    let answer = c.documents_have_one_answer.ensures in
    let written = c.evidence_is_accepted.ensures in
    let one : OneJudgement = record { fit = answer.fit; labelled = answer.labelled; either = answer.either; unfit = answer.unfit; mislabelled = answer.mislabelled } in
    record {
      no_of_check = check_passes one written.bounds written.steps;
      no_of_run = run_passes one written.bounds written.steps;
      no_of_closed = closed_passes one written.bounds written.steps;
      yes_of_closed = bounds_pass one written.bounds written.steps;
    }
