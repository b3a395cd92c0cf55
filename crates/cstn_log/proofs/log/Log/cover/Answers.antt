use Rattle.std.proofs.Common.{subst}
use Rattle.std.specs.Prelude.{IfSome}
use Rattle.cstn_log.specs.Entries.{State, IsCoveredBy, IsDominator}
use Rattle.cstn_log.proofs.KeptLemmas.{dominator_at, placed_there}
use Rattle.cstn_log.proofs.log.Log.cover.Goals as goal

pub returns-in-Some-clause-cover : goal.returns-in-Some-clause-cover
returns-in-Some-clause-cover c =
    subst (λ (v : State). IfSome c.place.result (λ k. IsDominator v.entries k c.args.b.now)) c.self.view_is
    (dominator_at _ _ _ _ _ _ c.in-Some.id c.args.b.now c.place.result c.self.invariant.kept c.in-Some.ensures.cover c.place.ensures.place)

pub returns-in-Some-clause-none : goal.returns-in-Some-clause-none
returns-in-Some-clause-none c =
    let found = c.in-Some.ensures.cover in
    placed_there _ _ _ c.in-Some.id found.0 c.place.result _ c.self.invariant.kept.tabled found.1 c.place.ensures.none

pub returns-in-None-clause-none : goal.returns-in-None-clause-none
returns-in-None-clause-none c =
    subst (λ (v : State). ¬ IsCoveredBy v.entries c.args.b.now) c.self.view_is
    (c.self.invariant.kept.tabled.covers c.args.b.now c.in-None.ensures.none)
