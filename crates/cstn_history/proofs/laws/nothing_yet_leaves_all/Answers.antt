use Rattle.cstn_history.proofs.Nothing.{nothing_history, rest_whole}
use Rattle.cstn_history.proofs.laws.nothing_yet_leaves_all.Goals as goal

pub returns : goal.returns
returns c = record { history = nothing_history; rest = λ m fresh good. rest_whole m fresh good }
