use Rattle.std.proofs.Common.{◌≡◌, ◌+◌, ◌<◌, Some, length, arith, sym, subst, ap, ◌∙◌}
use Rattle.cstn_net.specs.declared.points.TimePoint.{TimePoint}
use Rattle.cstn_net.specs.Networks.{count}
use Rattle.cstn_net.specs.Drafts.{with_reaction}
use Rattle.cstn_lift.specs.Handed.{HasPoints}
use Rattle.cstn_lift.specs.Read.{the_labelled}
use Rattle.cstn_history.specs.Rest.{reaction_after}
use Rattle.cstn_history.specs.Read.{the_history}
use Rattle.cstn_history.specs.Handed.{bared}
use Rattle.cstn_history.proofs.Points.{old_inside, few_left, point_next, points_counted, reaction_put}
use Rattle.cstn_history.proofs.rests.add_point.Goals as goal

pub sight_left-observes-requires : goal.sight_left-observes-requires
sight_left-observes-requires c =
    let m = the_labelled c.args.network.now in
    let h = the_history c.args.history.now in
    record {
      inside = subst (λ y. y < count m.base) (sym c.requires.next)
          (old_inside m h c.requires.labelled c.requires.kept.history c.requires.kept.in_time (length c.args.builder.now.points) c.requires.place);
    }

pub node-requires : goal.node-requires
node-requires c =
    let few = few_left (the_labelled c.args.network.now) (the_history c.args.history.now) c.requires.labelled c.requires.kept.history c.requires.kept.in_time
    (length c.args.builder.now.points) c.requires.place in
    omega arith

pub returns-in-Some-clause-added : goal.returns-in-Some-clause-added
returns-in-Some-clause-added c =
    let m = the_labelled c.args.network.now in
    let h = the_history c.args.history.now in
    let old = c.args.builder.now.points in
    let observes = c.sight_left-observes.result in
    let t : TimePoint = record { observes = observes; reaction = 1 } in
    let ticks = c.reaction_left.result in
    let at = c.in_ok-node.ensures.number in
    let points = ap (λ b. b.points) c.react.ensures.react
    ∙ ap (λ (b : _). with_reaction c.in_ok-node.node ticks b.points) c.in_ok-node.ensures.appended
    ∙ reaction_put old t c.in_ok-node.node ticks at in
    subst (λ ps. HasPoints (bared m h) (length old + 1) ps) (sym points)
    (point_next m h c.requires.labelled c.requires.kept.history c.requires.kept.in_time (length old) c.args.x.0 old observes ticks c.requires.place c.requires.next
    c.requires.before c.sight_left-observes.ensures (λ p is.
    c.reaction_left.ensures ∙ ap (λ i. reaction_after m h i c.args.x.0 (h.done c.args.x.0)) (let same : Some c.in-Some.p ≡ Some p = sym c.in-Some.is ∙ is in let e : c.in-Some.p ≡ p = cc in ap (λ q. q.index) e)))

pub returns-in_default-clause-added : goal.returns-in_default-clause-added
returns-in_default-clause-added c =
    let m = the_labelled c.args.network.now in
    let h = the_history c.args.history.now in
    let old = c.args.builder.now.points in
    let observes = c.sight_left-observes.result in
    subst (λ ps. HasPoints (bared m h) (length old + 1) ps) (sym (ap (λ b. b.points) c.in_ok-node.ensures.appended))
    (point_next m h c.requires.labelled c.requires.kept.history c.requires.kept.in_time (length old) c.args.x.0 old observes 1 c.requires.place c.requires.next
    c.requires.before c.sight_left-observes.ensures (λ p is. absurd (let none = c.in_default.is in cc)))

pub returns-in-Some-clause-longer : goal.returns-in-Some-clause-longer
returns-in-Some-clause-longer c =
    points_counted (the_labelled c.args.network.now) (the_history c.args.history.now) c.requires.labelled c.requires.kept.history c.requires.kept.in_time
    (length c.args.builder.now.points + 1) c.react.new.self.points (let inside = c.requires.place in omega arith) (returns-in-Some-clause-added c)
