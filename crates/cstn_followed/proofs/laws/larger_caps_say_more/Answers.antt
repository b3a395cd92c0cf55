use Rattle.cstn_follow.specs.Following.{begun_following}
use Rattle.cstn_follow.proofs.States.{begun_sound}
use Rattle.cstn_followed.proofs.Capped.{caps_lead}
use Rattle.cstn_followed.proofs.laws.larger_caps_say_more.Goals as goal

pub returns : goal.returns
returns c = record {
  state = λ cap larger names m lines s good few named upto leads.
      (caps_lead (begun_following cap names m) s larger 0 lines (begun_sound cap names m good few named) upto leads).0;
  texts = λ cap larger names m lines s good few named upto leads.
      (caps_lead (begun_following cap names m) s larger 0 lines (begun_sound cap names m good few named) upto leads).1;
}
