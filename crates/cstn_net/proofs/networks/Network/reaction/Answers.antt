use Rattle.std.proofs.Common.{◌≡◌, get_or, sym, subst, ◌∙◌, ap, arith}
use Rattle.cstn_net.specs.Networks.{Observes, IsWellFormed}
use Rattle.cstn_net.specs.Read.{reaction_of, the_network}
use Rattle.cstn_net.proofs.ObserverLemmas.{reaction_by, no_reaction_by, observer_inside}
use Rattle.cstn_net.proofs.networks.Network.reaction.Goals as goal

pub index-requires-in-Some : goal.index-requires-in-Some
index-requires-in-Some c =
    let inside = c.self.inside in
    let within = observer_inside inside.points.items inside.observers c.args.p.index c.in-Some.x c.self.invariant.0.observers c.in-Some.is in
    let len = inside.points.ok.0 in
    let at = c.index.ensures.index in
    omega arith

pub returns-in-Some : goal.returns-in-Some
returns-in-Some c =
    let inside = c.self.inside in
    let found = c.index-in-Some.result.now in
    let p = c.args.p.index in
    let x = c.in-Some.x in
    let by = reaction_by inside.points.items inside.observers p x found c.self.invariant.0.observers c.in-Some.is in
    let stood = subst (λ n. found ≡ get_or inside.points.items n found) c.index.ensures.index c.index-in-Some.ensures in
    let is = ap (λ t. t.reaction) stood ∙ sym by ∙ ap (λ v. reaction_of v.points p) c.self.view_is in
    let there = subst (λ v. Observes (the_network v) x.0 p) c.self.view_is (record { what = c.self.invariant.0.observers.right p x c.in-Some.is }) in
    let good = subst (λ v. IsWellFormed (the_network v)) c.self.view_is c.self.invariant.0.well_formed in
    let some = good.network.reacts x.0 p there in
    let soon = good.soon x.0 p there in
    record {
      reaction = is;
      range = (omega (arith, is, some), omega (arith, is, soon));
      unobserved = λ none. absurd (none x.0 there);
    }

pub returns-in-None-clause-reaction : goal.returns-in-None-clause-reaction
returns-in-None-clause-reaction c =
    sym (subst (λ v. reaction_of v.points c.args.p.index ≡ 1) c.self.view_is
    (no_reaction_by c.self.inside.points.items c.self.inside.observers c.args.p.index c.self.invariant.0.observers c.in-None.is))
