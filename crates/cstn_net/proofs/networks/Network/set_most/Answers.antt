use Rattle.std.proofs.Common.{◌≡◌, ◌≢◌, ◌<◌, length, map, set, refl, sym, subst, ◌∙◌, ap, arith, to_z, of_z, w32}
use Rattle.std.specs.Prelude.{ℤ}
use Rattle.std.specs.List.{All, AllPairs, HoldsAt}
use Rattle.std.proofs.lemmas.Int.{ints}
use Rattle.cstn_net.specs.declared.constraints.Constraint.{Constraint}
use Rattle.cstn_net.specs.Networks.{IsWellFormed}
use Rattle.cstn_net.specs.Links.{AreLinked, ends}
use Rattle.cstn_net.specs.Read.{NetworkParts, with_most}
use Rattle.cstn_net.proofs.ChangeLemmas.{changed, kept_in, kept_with, net_of, set_is, others_stay, same_parts, ids_ascend, same_ends}
use Rattle.cstn_net.proofs.networks.Network.set_most.Goals as goal

pub place_in-requires : goal.place_in-requires
place_in-requires c =
    let inside = c.self.inside in
    subst (AllPairs (λ b d. b.id < d.id)) (sym c.deref.ensures.value)
    (ids_ascend inside.deadline inside.points.items inside.constraints.items c.self.invariant.0.well_formed)

others : (c : goal.In_default) → All (λ d. d.id ≢ c.args.id) c.args.self.now.constraints
others c = subst (All (λ d. d.id ≢ c.args.id)) (c.deref.ensures.value ∙ ap (λ v. v.constraints) c.self.view_is) c.in_default.ensures

pub returns-in_default-clause-set : goal.returns-in_default-clause-set
returns-in_default-clause-set c =
    ap (λ cs. record c.args.self.now { constraints = cs }) (sym (others_stay c.args.id c.args.most c.args.self.now.constraints (others c)))

with_new : (c : goal.After-self-1) (new : Constraint) → new ≡ record c.index_mut.result.now { most = c.args.most } →
    set c.self.inside.constraints.items c.in-Some.at new ≡ map (with_most c.args.id c.args.most) c.self.inside.constraints.items
with_new c new made =
    let inside = c.self.inside in
    let cs = inside.constraints.items in
    let found = subst (λ cs. (c.in-Some.at < length cs) × HoldsAt (λ d. d.id ≡ c.args.id) cs c.in-Some.at) c.deref.ensures.value c.in-Some.ensures in
    set_is c.args.id c.args.most cs c.in-Some.at c.index_mut.result.now new found.0 found.1 c.index_mut.ensures.value made
    (ids_ascend inside.deadline inside.points.items cs c.self.invariant.0.well_formed)

set_made : (c : goal.After-self-1) (m : ℤ) → m ≡ c.args.most →
    set c.self.inside.constraints.items c.in-Some.at (record c.index_mut.result.now { most = m })
    ≡ map (with_most c.args.id c.args.most) c.self.inside.constraints.items
set_made c m same = with_new c _ (ap (λ m. record c.index_mut.result.now { most = m }) same)

pub invariant_of-self : goal.invariant_of-self
invariant_of-self c =
    let inside = c.self.inside in
    let cs = inside.constraints.items in
    let net = net_of inside.deadline inside.points.items cs in
    let old = c.self.invariant.0 in
    let same : to_z w32 (of_z w32 c.args.most) ≡ c.args.most = omega (arith, ints) in
    let made = set_made c _ same in
    let kept = kept_with net cs c.args.id c.args.most (kept_in net cs refl old.well_formed) c.requires in (
      record {
        observers = old.observers;
        well_formed = subst (λ cs. IsWellFormed (net_of inside.deadline inside.points.items cs)) (sym made)
            (changed inside.deadline inside.points.items cs _ old.well_formed kept);
        linked = subst (λ xs. AreLinked xs inside.links.chains.items inside.links.nexts.items)
            (sym (ap ends made ∙ same_ends c.args.id c.args.most cs)) old.linked;
        wide = old.wide;
      },
      c.self.invariant.1,
    )

pub returns-clause-set : goal.returns-clause-set
returns-clause-set c =
    let inside = c.self.inside in
    let same : to_z w32 (of_z w32 c.args.most) ≡ c.args.most = omega (arith, ints) in
    same_parts inside.deadline inside.points.items _ _ _ _ (set_made c _ same) refl
    ∙ ap {A = NetworkParts} (λ v. record v { constraints = map (with_most c.args.id c.args.most) v.constraints }) c.self.view_is

pub returns-clause-well_formed : goal.returns-clause-well_formed
returns-clause-well_formed c = (invariant_of-self c).0.well_formed
