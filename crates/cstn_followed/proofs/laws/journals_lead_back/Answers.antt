use Rattle.std.proofs.Common.{arith, refl}
use Rattle.cstn_follow.specs.Following.{begun_following}
use Rattle.cstn_follow.proofs.States.{begun_sound}
use Rattle.cstn_followed.proofs.Journals.{leads_back}
use Rattle.cstn_followed.proofs.laws.journals_lead_back.Goals as goal

pub returns : goal.returns
returns c = record {
  state = λ cap names m lines s good few named leads.
      let start = begun_following cap names m in
      let back = leads_back start s 0 0 0 lines (begun_sound cap names m good few named) (omega arith) leads in
      (record s { lines = back.count }, back.leads, (back.count, refl));
  texts = λ cap names m lines s good few named leads.
      (leads_back (begun_following cap names m) s 0 0 0 lines (begun_sound cap names m good few named) (omega arith) leads).texts;
}
