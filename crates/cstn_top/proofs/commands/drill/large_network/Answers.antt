use Rattle.std.proofs.Common.{◌∙◌}
use Rattle.cstn_top.proofs.Drills.{large_is}
use Rattle.cstn_top.proofs.commands.drill.large_network.Goals as goal

pub returns-clause-network : goal.returns-clause-network
returns-clause-network c = c.in_ok-net.ensures.network ∙ large_is c.args.number
