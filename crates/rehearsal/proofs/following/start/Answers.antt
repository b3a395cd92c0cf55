use Rattle.std.proofs.Common.{◌<◌, ◌^◌, subst}
use Rattle.std.specs.List.{All}
use Rattle.std.proofs.lemmas.List.Elements.{All-map}
use Rattle.cstn_net.specs.declared.constraints.Constraint.{Constraint}
use Rattle.cstn_net.specs.Networks.{Constraint as TheConstraint}
use Rattle.cstn_net.specs.Read.{NetworkParts, the_constraint}
use Rattle.rehearsal.proofs.following.start.Goals as goal

pub start-requires : goal.start-requires
start-requires c = record {
  ids = All-map (λ (d : TheConstraint). d.id < 2 ^ 31) the_constraint c.args.network.base.constraints
      (subst (λ (net : NetworkParts). All (λ (d : Constraint). d.id < 2 ^ 31) net.constraints) c.base.ensures.base
      (c.has_low_ids.ensures.0 c.if-not-has_low_ids.false));
}
