use Rattle.std.proofs.Common.{ap, ◌∙◌}
use Rattle.std.specs.Prelude.{map}
use Rattle.cstn_net.specs.Read.{observed, reaction_of}
use Rattle.cstn_gen.specs.Generated.{generated}
use Rattle.cstn_gen.proofs.MadeLemmas.{points_count, made_is}
use Rattle.cstn_gen.proofs.WellFormed.{well_formed}
use Rattle.cstn_gen.proofs.generated.network.Goals as goal

pub returns-in_err-add_points-clause-well_formed : goal.returns-in_err-add_points-clause-well_formed
returns-in_err-add_points-clause-well_formed c = well_formed c.args.number c.args.size c.requires.some c.requires.most

pub add_constraints-requires-clause-points : goal.add_constraints-requires-clause-points
add_constraints-requires-clause-points c = points_count c.args.size c.args.size c.add_points.new.builder.points c.in_ok-add_points.ensures.points

pub returns-in_err-add_constraints-clause-well_formed : goal.returns-in_err-add_constraints-clause-well_formed
returns-in_err-add_constraints-clause-well_formed c = well_formed c.args.number c.args.size c.requires.some c.requires.most

pub returns-in_err-names-clause-well_formed : goal.returns-in_err-names-clause-well_formed
returns-in_err-names-clause-well_formed c = well_formed c.args.number c.args.size c.requires.some c.requires.most

pub memory_of-requires : goal.memory_of-requires
memory_of-requires c =
    let b = c.add_constraints.new.builder in
    let points = c.in_ok-add_points.ensures.points in
    c.handed_networks_are_closed.ensures.memory b (generated c.args.number c.args.size) (well_formed c.args.number c.args.size c.requires.some c.requires.most)
    (record {
      deadline = c.in_ok-add_constraints.ensures.rest.0 ∙ c.in_ok-add_points.ensures.rest.0 ∙ ap (λ b. b.deadline) c.new-builder.ensures.new;
      observes = ap (map observed) c.in_ok-add_constraints.ensures.rest.1 ∙ points.observes;
      reaction = λ p. ap (λ ps. reaction_of ps p) c.in_ok-add_constraints.ensures.rest.1 ∙ c.reactions_are_a_tick_at_first.ensures.reaction c.add_points.new.builder.points points.prompt p;
      constraints = c.in_ok-add_constraints.ensures.constraints;
    })
    c.in-Err.error c.in-Err.ensures.refused

pub returns-in-Ok-clause-network : goal.returns-in-Ok-clause-network
returns-in-Ok-clause-network c =
    let b = c.add_constraints.new.builder in
    made_is c.args.number c.args.size c.in-Ok.network c.add_points.new.builder.points b.drafts
    (c.in-Ok.ensures.deadline ∙ c.in_ok-add_constraints.ensures.rest.0 ∙ c.in_ok-add_points.ensures.rest.0 ∙ ap (λ b. b.deadline) c.new-builder.ensures.new)
    (c.in-Ok.ensures.points ∙ c.in_ok-add_constraints.ensures.rest.1) c.in-Ok.ensures.constraints
    c.in_ok-add_points.ensures.points
    (c.reactions_are_a_tick_at_first.ensures.reaction c.add_points.new.builder.points c.in_ok-add_points.ensures.points.prompt)
    c.in_ok-add_constraints.ensures.constraints

pub returns-in-Err-clause-well_formed : goal.returns-in-Err-clause-well_formed
returns-in-Err-clause-well_formed c = well_formed c.args.number c.args.size c.requires.some c.requires.most
