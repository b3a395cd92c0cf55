use Rattle.std.proofs.Common.{◌<◌, List, ◌∷◌, [], ◌++◌, sym, subst, ap, ◌∙◌}
use Rattle.std.specs.List.{All}
use Rattle.cstn_net.specs.declared.constraints.Constraint.{Constraint}
use Rattle.cstn_net.specs.Networks.{Constraint as TheConstraint, Network, IsConstraint}
use Rattle.cstn_net.specs.Read.{NetworkParts, the_network, the_constraint}
use Rattle.cstn_change.proofs.PlanLemmas.{constraint_added, copy_edited}
use Rattle.cstn_change.proofs.plans.with_constraint.Goals as goal

pub insert-requires-clause-above : goal.insert-requires-clause-above
insert-requires-clause-above c =
    let same = ap (λ (n : NetworkParts). n.constraints) c.reserve.ensures.same ∙ ap (λ (n : NetworkParts). n.constraints) c.in_ok-base.ensures.equal in
    subst (λ (cs : List Constraint). All (λ d. d.id < c.args.c.id) cs) (sym same) c.requires.above

pub insert-requires-clause-constraint : goal.insert-requires-clause-constraint
insert-requires-clause-constraint c =
    let same = ap the_network c.reserve.ensures.same ∙ ap the_network c.in_ok-base.ensures.equal in
    subst (λ (n : Network). IsConstraint n (the_constraint c.args.c)) (sym same) c.requires.constraint

pub returns : goal.returns
returns c = record {
  edited =
      let cs = λ (l : List TheConstraint). l ++ the_constraint c.args.c ∷ [] in
      let one = constraint_added c.reserve.new.self c.insert.new.self c.args.c c.insert.new.self.spare c.insert.ensures.insert in
      let two = copy_edited c.in_ok-base.base c.reserve.new.self c.insert.new.self cs c.reserve.new.self.spare c.reserve.ensures.same one in
      copy_edited c.args.net.now c.in_ok-base.base c.insert.new.self cs 0 c.in_ok-base.ensures.equal two;
}
