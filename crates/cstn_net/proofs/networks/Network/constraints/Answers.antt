use Rattle.std.proofs.Common.{sym, subst, ◌∙◌, ap}
use Rattle.std.specs.List.{All}
use Rattle.std.proofs.lemmas.List.{length-map}
use Rattle.cstn_net.specs.Networks.{count}
use Rattle.cstn_net.specs.Read.{the_network, observed, IsInRange}
use Rattle.cstn_net.proofs.ChangeLemmas.{ranges}
use Rattle.cstn_net.proofs.networks.Network.constraints.Goals as goal

pub returns-clause-ranges : goal.returns-clause-ranges
returns-clause-ranges c =
    let inside = c.self.inside in
    let many = sym (length-map inside.points.items observed) ∙ ap (λ v. count (the_network v)) c.self.view_is in
    subst (All (IsInRange (count (the_network c.args.self.now)))) (sym c.deref.ensures.value)
    (ranges inside.deadline (count (the_network c.args.self.now)) inside.points.items inside.constraints.items c.self.invariant.0.well_formed many)
