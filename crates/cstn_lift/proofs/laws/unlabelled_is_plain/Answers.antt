use Rattle.cstn_lift.proofs.Unlabelled.{numbered_same, unlabelled_lowered}
use Rattle.cstn_lift.proofs.laws.unlabelled_is_plain.Goals as goal

pub returns : goal.returns
returns c = record { numbered = unlabelled_lowered; same = numbered_same }
