use Rattle.cstn_history.proofs.Edited.{can_new, timely_edited}
use Rattle.cstn_history.proofs.laws.edits_keep_histories.Goals as goal

pub returns : goal.returns
returns c = record { history = timely_edited; more = λ m h deadline cs later fewer. can_new m deadline cs h later fewer }
