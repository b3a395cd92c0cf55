use Rattle.cstn_headline.proofs.LeftReplayed.{DocumentsBack}
use Rattle.cstn_headline.proofs.PlanDocuments.{documents_are_plans}
use Rattle.cstn_headline.proofs.laws.documents_of_plans_are_the_plans.Goals as goal

pub returns : goal.returns
returns c =
    let backs : DocumentsBack = record { back = c.documents_are_read_back.ensures.back; fit = c.documents_are_read_back.ensures.fit } in
    λ asked bytes live said output good. documents_are_plans backs c.documents_are_read_back.ensures.same bytes asked.deadline live said output good
