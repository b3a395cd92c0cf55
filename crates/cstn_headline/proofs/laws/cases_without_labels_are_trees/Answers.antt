use Rattle.cstn_top.specs.Dispatch.{file_in}
use Rattle.cstn_headline.proofs.OneOutput.{OneJudgement}
use Rattle.cstn_headline.proofs.CasesTrees.{trees_are_cases}
use Rattle.cstn_headline.proofs.CasesSaid.{same_answers}
use Rattle.cstn_headline.proofs.laws.cases_without_labels_are_trees.Goals as goal

pub returns : goal.returns
returns c =
    let answer = c.documents_have_one_answer.ensures in
    let judgement : OneJudgement = record { fit = answer.fit; labelled = answer.labelled; either = answer.either; unfit = answer.unfit; mislabelled = answer.mislabelled } in
    record {
      said = λ asked cap contents live one other x y accepted narrow.
          same_answers judgement (file_in contents) asked.deadline cap live one other accepted narrow x y;
      tree = λ m bounds tree plan unlabelled made. trees_are_cases m bounds plan unlabelled tree made;
    }
