use Rattle.std.proofs.Common.{◌<◌, ◌∷◌, [], length, refl, sym, subst, ◌∙◌, ap, arith}
use Rattle.std.specs.List.{All}
use Rattle.std.proofs.lemmas.List.{map-append}
use Rattle.cstn_net.specs.Limits.{most_constraints}
use Rattle.cstn_net.specs.Networks.{IsWellFormed, IsConstraint}
use Rattle.cstn_net.specs.Links.{AreLinked, ends}
use Rattle.cstn_net.specs.Read.{the_network, the_constraint}
use Rattle.cstn_net.proofs.ChangeLemmas.{changed, kept_in, kept_push, net_of}
use Rattle.cstn_net.proofs.networks.Network.insert.Goals as goal

pub invariant_of-self : goal.invariant_of-self
invariant_of-self c =
    let inside = c.self.inside in
    let cs = inside.constraints.items in
    let net = net_of inside.deadline inside.points.items cs in
    let old = c.self.invariant.0 in
    let now_is = sym c.self.view_is in
    let kept = kept_push net cs c.args.c (kept_in net cs refl old.well_formed)
    (subst (λ v. length v.constraints < most_constraints) now_is c.requires.few)
    (subst (λ v. All (λ d. d.id < c.args.c.id) v.constraints) now_is c.requires.above)
    (subst (λ v. IsConstraint (the_network v) (the_constraint c.args.c)) now_is c.requires.constraint) c.requires.value in
    let room = c.self.invariant.1 in (
      record {
        observers = old.observers;
        well_formed = subst (λ cs. IsWellFormed (net_of inside.deadline inside.points.items cs)) (sym c.push_reserved.ensures.items)
            (changed inside.deadline inside.points.items cs _ old.well_formed kept);
        linked = subst (λ xs. AreLinked xs c.append.new.self.chains.items c.append.new.self.nexts.items)
            (sym (ap ends c.push_reserved.ensures.items ∙ map-append (λ d. d.to.0) cs (c.args.c ∷ [])))
            (c.append.ensures.linked (ends cs) old.linked);
        wide = c.append.ensures.wide ∙ old.wide;
      },
      omega (arith, c.append.ensures.room, c.push_reserved.ensures.capacity, room),
    )

pub returns-clause-well_formed : goal.returns-clause-well_formed
returns-clause-well_formed c = (invariant_of-self c).0.well_formed
