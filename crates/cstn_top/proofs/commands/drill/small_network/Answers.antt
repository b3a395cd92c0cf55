use Rattle.std.proofs.Common.{◌∙◌}
use Rattle.cstn_top.proofs.Drills.{small_is}
use Rattle.cstn_top.proofs.commands.drill.small_network.Goals as goal

pub returns-clause-network : goal.returns-clause-network
returns-clause-network c = c.in_ok-net.ensures.network ∙ small_is c.args.number c.args.i
