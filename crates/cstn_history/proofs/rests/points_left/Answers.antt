use Rattle.std.proofs.Common.{refl, ap, ◌∙◌}
use Rattle.cstn_net.specs.Drafts.{constraints_from}
use Rattle.cstn_lift.specs.Read.{the_labelled}
use Rattle.cstn_history.specs.Read.{the_history}
use Rattle.cstn_history.specs.Handed.{bared}
use Rattle.cstn_history.proofs.Points.{points_closed, points_handed, bared_is}
use Rattle.cstn_history.proofs.rests.points_left.Goals as goal

pub returns-in-Ok-clause-bared : goal.returns-in-Ok-clause-bared
returns-in-Ok-clause-bared c =
    let b = c.add_points.new.builder in
    let new = c.new-builder.ensures.new in
    let n = c.in-Ok.net in
    points_closed c.args.network.now (the_history c.args.history.now) c.base.ensures.labelled c.requires.kept.history c.requires.kept.in_time
    b.points c.in_default.ensures.points n
    (c.in-Ok.ensures.deadline ∙ c.in_default.ensures.same.0 ∙ ap (λ k. k.deadline) new ∙ c.deadline.ensures.deadline ∙ ap (λ k. k.deadline) c.base.ensures.base)
    c.in-Ok.ensures.points
    (c.in-Ok.ensures.constraints ∙ ap (constraints_from 0) (c.in_default.ensures.same.1 ∙ ap (λ k. k.drafts) new))

pub returns-in-Err-close-clause-refused : goal.returns-in-Err-close-clause-refused
returns-in-Err-close-clause-refused c =
    let parts = c.args.network.now in
    let h = the_history c.args.history.now in
    let good = c.base.ensures.labelled in
    let known = c.requires.kept.history in
    let timely = c.requires.kept.in_time in
    let b = c.add_points.new.builder in
    let new = c.new-builder.ensures.new in
    c.error_of.ensures.memory (c.handed_networks_are_closed.ensures.memory b (bared (the_labelled parts) h) (bared_is parts h good known timely)
    (points_handed parts h good known timely b.points c.in_default.ensures.points b
    (c.in_default.ensures.same.0 ∙ ap (λ k. k.deadline) new ∙ c.deadline.ensures.deadline ∙ ap (λ k. k.deadline) c.base.ensures.base) refl
    (c.in_default.ensures.same.1 ∙ ap (λ k. k.drafts) new)) c.in-Err-close.e c.in-Err-close.ensures.refused)
