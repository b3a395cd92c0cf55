use Rattle.std.proofs.Common.{◌≡◌}
use Rattle.cstn_history.specs.Read.{the_history}
use Rattle.cstn_follow.specs.LeastDeadline.{last_done}
use Rattle.cstn_follow.proofs.deadlines.last_done.Given as goal

abbrev pub invariant-loop-x : goal.invariant-loop-x
invariant-loop-x l = l.last ≡ last_done (the_history l.fn.history) l.x
