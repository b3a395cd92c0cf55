use Rattle.std.proofs.Common.{◌+◌, sym, subst, ap, ◌∙◌}
use Rattle.cstn_net.specs.declared.points.TimePoint.{TimePoint}
use Rattle.cstn_net.specs.Read.{the_network, reaction_of}
use Rattle.cstn_net.specs.Drafts.{with_reaction}
use Rattle.cstn_lift.specs.Handed.{HasPoints}
use Rattle.cstn_lift.proofs.Built.{point_added, reaction_set, reacts_there}
use Rattle.cstn_lift.proofs.lowering.add_point.Goals as goal

pub returns-in-Some-clause-added : goal.returns-in-Some-clause-added
returns-in-Some-clause-added c =
    let net = the_network c.args.net.now in
    let old = c.args.builder.now.points in
    let observes = c.observes-observes.result in
    let t : TimePoint = record { observes = observes; reaction = 1 } in
    let ticks = c.reaction.result in
    let at = c.in_ok-node.ensures.number in
    let points = ap (λ b. b.points) c.react.ensures.react
    ∙ ap (λ (b : _). with_reaction c.in_ok-node.node ticks b.points) c.in_ok-node.ensures.appended
    ∙ reaction_set old t c.in_ok-node.node ticks at in
    subst (λ ps. HasPoints net (c.args.x.0 + 1) ps) (sym points)
    (point_added net c.args.x.0 old (record { observes = observes; reaction = ticks }) c.requires.inside c.requires.before c.observes-observes.ensures.observes
    (reacts_there observes c.in-Some.p (reaction_of c.args.net.now.points) ticks c.in-Some.is c.reaction.ensures.reaction))
