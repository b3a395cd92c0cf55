use Rattle.cstn_headline.proofs.LeftReplayed.{DocumentsBack}
use Rattle.cstn_headline.proofs.LeftChecked.{checked_yes, checked_no}
use Rattle.cstn_headline.proofs.laws.followed_rests_decide.Goals as goal

pub returns : goal.returns
returns c =
    let backs : DocumentsBack = record { back = c.documents_are_read_back.ensures.back; fit = c.documents_are_read_back.ensures.fit } in
    record {
      yes = λ cap checks names m lines s u bytes live asked said good few named unseen leads left_is plain output.
          checked_yes backs cap names m lines s u bytes live asked checks said good few named unseen leads left_is plain output;
      no = λ cap checks names m lines s u bytes live asked said good few named unseen leads left_is plain output.
          checked_no backs cap names m lines s u bytes live asked checks said good few named unseen leads left_is plain output;
    }
