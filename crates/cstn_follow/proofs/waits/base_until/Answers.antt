use Rattle.std.proofs.Common.{◌≡◌, ◌+◌, ◌<◌, arith, sym, subst, ap, ◌∙◌}
use Rattle.std.specs.List.{All}
use Rattle.cstn_net.specs.Limits.{most_constraints}
use Rattle.cstn_net.specs.Networks.{Network, Constraint as TheConstraint, IsConstraint, count}
use Rattle.cstn_net.specs.declared.constraints.Constraint.{Constraint}
use Rattle.cstn_net.specs.Read.{NetworkParts, the_network}
use Rattle.cstn_change.proofs.IdLemmas.{ids_in}
use Rattle.cstn_follow.proofs.Until.{waiting_constraint}
use Rattle.cstn_follow.proofs.waits.base_until.Goals as goal

pub insert-requires-clause-above : goal.insert-requires-clause-above
insert-requires-clause-above c k d inside =
    let bound = c.args.fresh + most_constraints in
    let old = c.args.net.now.constraints in
    let constraints_of : NetworkParts → _ = λ n. n.constraints in
    let same = ap constraints_of c.reserve.ensures.same ∙ ap constraints_of c.in_ok-base.ensures.equal in
    let all : All (λ (e : Constraint). e.id < bound) old = ids_in bound old c.requires.above in
    let below = subst (All (λ (e : Constraint). e.id < bound)) (sym same) all k d inside in
    let id_is = ap (λ (e : TheConstraint). e.id) c.waiting_one.ensures in
    omega arith

pub insert-requires-clause-constraint : goal.insert-requires-clause-constraint
insert-requires-clause-constraint c =
    let net = the_network c.reserve.new.self in
    let same : net ≡ the_network c.args.net.now = ap the_network c.reserve.ensures.same ∙ ap the_network c.in_ok-base.ensures.equal in
    let here = subst (λ (n : Network). c.args.number < count n) (sym same) c.requires.inside in
    subst (IsConstraint net) (sym c.waiting_one.ensures)
    (waiting_constraint net c.args.fresh c.args.number c.args.moment c.reserve.ensures.well_formed.network.origin here)
