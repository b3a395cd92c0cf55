use Rattle.cstn_headline.proofs.OneOutput.{OneJudgement}
use Rattle.cstn_headline.proofs.SomeOutput.{TreesMade}
use Rattle.cstn_headline.proofs.Verbs.{Laws}
use Rattle.cstn_headline.proofs.Dispatch.{has_some, one_output}
use Rattle.cstn_headline.proofs.laws.outputs_are_one.Goals as goal

pub returns : goal.returns
returns c =
    let answer = c.documents_have_one_answer.ensures in
    let trees = c.made_trees_are_good.ensures in
    let judgement : OneJudgement = record { fit = answer.fit; labelled = answer.labelled; either = answer.either; unfit = answer.unfit; mislabelled = answer.mislabelled } in
    let made : TreesMade = record { some = c.networks_have_one_tree.ensures.some; good = trees.good; least = trees.least; written = trees.written; back = c.tree_texts_are_read_back.ensures.back } in
    let laws : Laws = record { made = answer.made; plans = c.plans_have_one_answer.ensures.made; trees = made; steps = c.texts_are_read_back.ensures.ranges; bounds = c.closed_texts_are_read_back.ensures.ranges } in
    record {
      one = one_output judgement c.closed_lists_are_accepted.ensures.one c.networks_have_one_tree.ensures.one;
      some = has_some laws;
    }
