use Rattle.std.proofs.Common.{◌<◌, sym, subst}
use Rattle.std.specs.List.{All}
use Rattle.cstn_net.specs.Read.{NetworkParts}
use Rattle.cstn_change.proofs.IdLemmas.{ids_in}
use Rattle.cstn_change.proofs.plans.changed.Goals as goal

pub changed_network-requires-clause-above : goal.changed_network-requires-clause-above
changed_network-requires-clause-above c =
    subst (λ (n : NetworkParts). All (λ d. d.id < c.args.fresh) n.constraints) (sym c.base.ensures.base)
    (ids_in c.args.fresh c.args.network.now.base.constraints c.requires.above)
