use Rattle.cstn_follow.proofs.GoesOn.{verdict_right}
use Rattle.cstn_follow.proofs.verdict_laws.verdicts_are_true.Goals as goal

pub returns : goal.returns
returns c = record { right = verdict_right }
