use Rattle.std.proofs.Common.{ℤ, w32, to_z, of_z, List, map, subst}
use Rattle.std.proofs.lemmas.Int.{to_z-of_z}
use Rattle.cstn_net.specs.Networks.{Constraint as TheConstraint}
use Rattle.cstn_net.specs.Read.{the_network}
use Rattle.cstn_change.specs.Changes.{with_value}
use Rattle.cstn_change.specs.Read.{OnlyConstraintsDiffer}
use Rattle.cstn_change.proofs.PlanLemmas.{value_changed, copy_edited}
use Rattle.cstn_change.proofs.plans.with_value.Goals as goal

pub returns : goal.returns
returns c = record {
  edited =
      let net = c.args.net.now in
      let id = c.args.id in
      let z = to_z w32 (of_z w32 c.args.most) in
      let set = value_changed c.in_ok-base.base c.set_most.new.self id z c.set_most.ensures.set in
      let made = copy_edited net c.in_ok-base.base c.set_most.new.self (λ (l : List TheConstraint). map (with_value id z) l) 0 c.in_ok-base.ensures.equal set in
      subst (λ (most : ℤ). OnlyConstraintsDiffer net c.set_most.new.self (map (with_value id most) (the_network net).constraints))
      (to_z-of_z w32 c.args.most c.ranges.most) made;
}
