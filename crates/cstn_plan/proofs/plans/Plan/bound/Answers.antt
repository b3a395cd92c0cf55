use Rattle.std.proofs.Common.{◌<◌, length, subst, sym, refl}
use Rattle.std.proofs.lemmas.Option.{slice_get_read}
use Rattle.cstn_label.specs.Read.{marks, the_bound}
use Rattle.cstn_net.specs.Networks.{IsOnObserved, count}
use Rattle.cstn_net.specs.Read.{the_network}
use Rattle.cstn_plan.specs.Plans.{PlanParts}
use Rattle.cstn_plan.proofs.PlanLemmas.{bound_there}
use Rattle.cstn_plan.proofs.plans.Plan.bound.Goals as goal

pub returns-clause-node : goal.returns-clause-node
returns-clause-node c =
    let inside = subst (λ (v : PlanParts). c.args.k < length v.bounds) (sym c.self.view_is) c.requires in
    let there = slice_get_read c.self.inside.bounds.items (length c.self.inside.bounds.items) c.args.k c.index.result.now refl inside c.index.ensures in
    let has = bound_there c.self.inside.bounds.items c.args.k c.index.result.now there in
    subst (λ (v : PlanParts). c.index.result.now.node.0 < count (the_network v.net)) c.self.view_is
    (c.self.invariant.closed.nodes (the_bound c.index.result.now) has)

pub returns-clause-observed : goal.returns-clause-observed
returns-clause-observed c =
    let inside = subst (λ (v : PlanParts). c.args.k < length v.bounds) (sym c.self.view_is) c.requires in
    let there = slice_get_read c.self.inside.bounds.items (length c.self.inside.bounds.items) c.args.k c.index.result.now refl inside c.index.ensures in
    let has = bound_there c.self.inside.bounds.items c.args.k c.index.result.now there in
    subst (λ (v : PlanParts). IsOnObserved (the_network v.net) (marks c.index.result.now.label)) c.self.view_is
    (c.self.invariant.closed.observed (the_bound c.index.result.now) has)
