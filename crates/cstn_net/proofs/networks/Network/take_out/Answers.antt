use Rattle.std.proofs.Common.{◌≡◌, ◌+◌, ◌-◌, ◌<◌, length, sym, subst, ◌∙◌, ap, arith}
use Rattle.std.specs.Vec.{vec_len, vec_capacity}
use Rattle.std.specs.List.{All, AllPairs, HoldsAt}
use Rattle.std.proofs.lemmas.List.{length-map}
use Rattle.cstn_net.specs.Links.{AreLinked, ends}
use Rattle.cstn_net.specs.Read.{NetworkParts, without_id}
use Rattle.cstn_net.proofs.ChangeLemmas.{IsLeft, left_over, same_parts, ids_ascend}
use Rattle.cstn_net.proofs.networks.Network.take_out.Goals as goal

pub place_in-requires : goal.place_in-requires
place_in-requires c =
    let inside = c.self.inside in
    subst (AllPairs (λ b d. b.id < d.id)) (sym c.deref.ensures.value)
    (ids_ascend inside.deadline inside.points.items inside.constraints.items c.self.invariant.0.well_formed)

pub rebuild-requires-clause-inside : goal.rebuild-requires-clause-inside
rebuild-requires-clause-inside c =
    let inside = c.self.inside in
    let found = subst (λ cs. (c.in-Some.at < length cs) × HoldsAt (λ d. d.id ≡ c.args.id) cs c.in-Some.at) c.deref.ensures.value c.in-Some.ensures in
    let left = left_over inside.deadline c.args.id c.in-Some.at inside.points.items inside.constraints.items _ c.self.invariant.0.well_formed found c.remove-taken.ensures.items in
    subst (λ n. All (λ d. d.to.0 < n) c.deref-2.result.now) (sym c.self.invariant.0.wide)
    (subst (All (λ d. d.to.0 < length inside.points.items)) (sym c.deref-2.ensures.value) left.inside)

left : (c : goal.After-rebuild) → IsLeft c.self.inside.deadline c.args.id c.self.inside.points.items c.self.inside.constraints.items c.remove-taken.new.self.items
left c =
    let inside = c.self.inside in
    let found = subst (λ cs. (c.in-Some.at < length cs) × HoldsAt (λ d. d.id ≡ c.args.id) cs c.in-Some.at) c.deref.ensures.value c.in-Some.ensures in
    left_over inside.deadline c.args.id c.in-Some.at inside.points.items inside.constraints.items _ c.self.invariant.0.well_formed found c.remove-taken.ensures.items

pub invariant_of-self : goal.invariant_of-self
invariant_of-self c =
    let old = c.self.invariant.0 in
    let room = c.self.invariant.1 in
    let links = c.rebuild.new.self in (
      record {
        observers = old.observers;
        well_formed = (left c).well_formed;
        linked = subst (λ cs. AreLinked (ends cs) links.chains.items links.nexts.items) c.deref-2.ensures.value c.rebuild.ensures.linked;
        wide = c.rebuild.ensures.wide ∙ old.wide;
      },
      omega (arith, c.rebuild.ensures.room, c.remove-taken.ensures.capacity, room),
    )

pub returns-clause-gone : goal.returns-clause-gone
returns-clause-gone c =
    let inside = c.self.inside in
    let len = c.remove-taken.ensures.len in
    let room = c.rebuild.ensures.room in
    let held = inside.constraints.ok.0 in
    let nexts = inside.links.nexts.ok.0 in
    let within = inside.links.nexts.ok.1 in
    let long = c.self.invariant.0.linked.long in
    let many = length-map inside.constraints.items (λ d. d.to.0) in
    let spare : vec_capacity c.rebuild.new.self.nexts - vec_len c.remove-taken.new.self ≡ vec_capacity inside.links.nexts - vec_len inside.constraints + 1 =
    omega arith in
    same_parts inside.deadline inside.points.items _ _ _ _ (left c).is spare
    ∙ ap {A = NetworkParts} (λ v. record v { constraints = without_id c.args.id v.constraints; spare = v.spare + 1 }) c.self.view_is

pub returns-clause-well_formed : goal.returns-clause-well_formed
returns-clause-well_formed c = (left c).well_formed
