use Rattle.cstn_followed.proofs.Verdicts.{states_true, fact_answered}
use Rattle.cstn_followed.proofs.laws.followed_verdicts_are_true.Goals as goal

pub returns : goal.returns
returns c = record { states = states_true; facts = fact_answered }
