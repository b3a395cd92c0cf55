use Rattle.std.proofs.Common.{◌<◌, length, subst, sym, ◌∙◌, ap, arith}
use Rattle.std.specs.List.{All}
use Rattle.cstn_net.proofs.ChangeLemmas.{ends_inside}
use Rattle.cstn_net.proofs.networks.Network.copy.Goals as goal

pub of-requires-clause-inside : goal.of-requires-clause-inside
of-requires-clause-inside c =
    let inside = c.self.inside in
    let points = c.in_ok-points.ensures.len in
    let many = c.len.ensures in
    let own = ap length c.deref.ensures.value in
    subst (All (λ d. d.to.0 < c.len.result)) (sym (c.deref-3.ensures.value ∙ c.in_ok-constraints.ensures.items ∙ c.deref-2.ensures.value))
    (ends_inside inside.deadline c.len.result inside.points.items inside.constraints.items c.self.invariant.0.well_formed (omega arith))
