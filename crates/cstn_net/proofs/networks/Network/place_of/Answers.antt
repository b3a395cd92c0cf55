use Rattle.std.proofs.Common.{◌≡◌, ◌≢◌, ◌<◌, length, sym, subst, ◌∙◌, ap}
use Rattle.std.specs.Prelude.{MatchOption}
use Rattle.std.specs.List.{All, AllPairs, HoldsAt}
use Rattle.cstn_net.proofs.ChangeLemmas.{ids_ascend, found_or_none}
use Rattle.cstn_net.proofs.networks.Network.place_of.Goals as goal

pub place_in-requires : goal.place_in-requires
place_in-requires c =
    let inside = c.self.inside in
    subst (AllPairs (λ b d. b.id < d.id)) (sym c.deref.ensures.value)
    (ids_ascend inside.deadline inside.points.items inside.constraints.items c.self.invariant.0.well_formed)

pub returns-clause-none : goal.returns-clause-none
returns-clause-none c = found_or_none c.args.id c.args.self.now.constraints c.place_in.result
    (subst (λ cs. MatchOption c.place_in.result (All (λ d. d.id ≢ c.args.id) cs) (λ k. (k < length cs) × HoldsAt (λ d. d.id ≡ c.args.id) cs k))
    (c.deref.ensures.value ∙ ap (λ v. v.constraints) c.self.view_is) c.place_in.ensures)
