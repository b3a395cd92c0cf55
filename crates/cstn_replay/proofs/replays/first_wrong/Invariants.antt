use Rattle.std.proofs.Common.{map}
use Rattle.cstn_net.specs.Read.{the_network}
use Rattle.cstn_rules.specs.Read.{the_entry}
use Rattle.cstn_replay.specs.Wrong.{AreRightBefore}
use Rattle.cstn_replay.proofs.replays.first_wrong.Given as goal

abbrev pub invariant-loop-k : goal.invariant-loop-k
invariant-loop-k l = AreRightBefore (the_network l.net) (map the_entry l.steps) l.k
