use Rattle.cstn_history.proofs.Told.{allows_both, settles_both}
use Rattle.cstn_history.proofs.laws.told_labels_are_decided.Goals as goal

pub returns : goal.returns
returns c = record { allows = allows_both; settles = settles_both }
