use Rattle.cstn_headline.proofs.LeftReplayed.{DocumentsBack, refutation_passes}
use Rattle.cstn_headline.proofs.OneOutput.{OneJudgement}
use Rattle.cstn_headline.proofs.laws.followed_refutations_pass.Goals as goal

pub returns : goal.returns
returns c =
    let answer = c.documents_have_one_answer.ensures in
    let one : OneJudgement = record { fit = answer.fit; labelled = answer.labelled; either = answer.either; unfit = answer.unfit; mislabelled = answer.mislabelled } in
    let backs : DocumentsBack = record { back = c.documents_are_read_back.ensures.back; fit = c.documents_are_read_back.ensures.fit } in
    refutation_passes one c.evidence_is_accepted.ensures.steps backs
