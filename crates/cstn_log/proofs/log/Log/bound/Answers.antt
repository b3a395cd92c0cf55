use Rattle.std.proofs.Common.{◌≡◌, ◌<◌, ℕ, Some, subst}
use Rattle.std.specs.Prelude.{slice_get}
use Rattle.cstn_rules.specs.declared.entries.Entry.{Entry}
use Rattle.cstn_log.specs.Entries.{State, IsBoundAt}
use Rattle.cstn_log.proofs.log.Log.bound.Goals as goal

pub returns-clause-bound : goal.returns-clause-bound
returns-clause-bound c =
    subst (λ (v : State). IsBoundAt v.entries c.args.k c.bound.result) c.self.view_is c.bound.ensures

pub returns-clause-node : goal.returns-clause-node
returns-clause-node c =
    let all = subst (λ (v : State). (k : ℕ) (e : Entry) → slice_get v.entries k ≡ Some e → e.bound.node.0 < v.nodes) c.self.view_is c.self.invariant.kept.inside in
    let at = returns-clause-bound c in
    subst (λ b. b.node.0 < c.args.self.now.nodes) at.is (all c.args.k at.entry at.there)
