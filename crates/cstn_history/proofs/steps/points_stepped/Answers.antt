use Rattle.std.proofs.Common.{◌≡◌, ◌++◌, ◌∷◌, [], arith, ap, ◌∙◌}
use Rattle.cstn_net.specs.Read.{the_network}
use Rattle.cstn_lift.specs.Read.{the_labelled}
use Rattle.cstn_history.specs.Read.{the_history}
use Rattle.cstn_history.specs.Steps.{with_point}
use Rattle.cstn_history.proofs.FurtherBuilt.{emptied, emptied_formed, points_few, further_handed, further_closed}
use Rattle.cstn_history.proofs.steps.points_stepped.Goals as goal

pub node-requires : goal.node-requires
node-requires c =
    let parts = c.args.network.now in
    let few = points_few parts (the_history c.args.nothing.now) c.base.ensures.labelled c.requires.nothing c.add_points.new.builder.points
    c.in_ok-add_points.ensures.points c.requires.room in
    omega arith

pub returns-in-Ok-clause-bare : goal.returns-in-Ok-clause-bare
returns-in-Ok-clause-bare c =
    let added = c.in_ok-add_points.ensures in
    let more = c.in_ok-node.ensures.appended in
    let new = c.new-builder.ensures.new in
    further_closed c.args.network.now (the_history c.args.nothing.now) c.base.ensures.labelled c.requires.nothing c.add_points.new.builder.points added.points
    c.node.new.self (ap (λ k. k.points) more)
    (ap (λ k. k.deadline) more ∙ added.same.0 ∙ ap (λ k. k.deadline) new ∙ c.deadline.ensures.deadline ∙ ap (λ k. k.deadline) c.base.ensures.base)
    (ap (λ k. k.drafts) more ∙ added.same.1 ∙ ap (λ k. k.drafts) new) c.in-Ok.net c.in-Ok.ensures.deadline c.in-Ok.ensures.points c.in-Ok.ensures.constraints

pub returns-in-Err-clause-refused : goal.returns-in-Err-clause-refused
returns-in-Err-clause-refused c =
    let parts = c.args.network.now in
    let h = the_history c.args.nothing.now in
    let good = c.base.ensures.labelled in
    let added = c.in_ok-add_points.ensures in
    let more = c.in_ok-node.ensures.appended in
    let new = c.new-builder.ensures.new in
    let b = c.node.new.self in
    c.error_of.ensures.memory (c.handed_networks_are_closed.ensures.memory b (emptied (with_point (the_network parts.base)))
    (emptied_formed parts good c.requires.room)
    (further_handed parts h good c.requires.nothing c.add_points.new.builder.points added.points b (ap (λ k. k.points) more)
    (ap (λ k. k.deadline) more ∙ added.same.0 ∙ ap (λ k. k.deadline) new ∙ c.deadline.ensures.deadline ∙ ap (λ k. k.deadline) c.base.ensures.base)
    (ap (λ k. k.drafts) more ∙ added.same.1 ∙ ap (λ k. k.drafts) new)) c.in-Err.e c.in-Err.ensures.refused)
