use Rattle.cstn_history.proofs.Rounds.{rounds_are_over}
use Rattle.cstn_history.proofs.laws.completion_ends.Goals as goal

pub returns : goal.returns
returns c = rounds_are_over
