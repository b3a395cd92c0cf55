use Rattle.std.proofs.Common.{◌+◌, arith, sym, subst, ap, ◌∙◌}
use Rattle.cstn_gen.specs.Generated.{observed_by}
use Rattle.cstn_gen.specs.Made.{HasDrawnPoints}
use Rattle.cstn_gen.proofs.MadeLemmas.{one_more_point, points_count}
use Rattle.cstn_gen.proofs.generated.add_points.Goals as goal

pub node-requires-in-loop-i : goal.node-requires-in-loop-i
node-requires-in-loop-i c =
    let count = points_count c.args.size c.loop-i.i c.loop-i.builder.points c.loop-i.invariant.points in
    omega (arith, count, c.loop-i-test.true, c.requires.few)

pub loop-i-preserved : goal.loop-i-preserved
loop-i-preserved c =
    let loop = c.loop-i.invariant in
    let added = c.in_ok-node-2.ensures.appended in
    record {
      points = subst (HasDrawnPoints c.args.size (c.loop-i.i + 1)) (sym (ap (λ b. b.points) added))
          (one_more_point c.args.size c.loop-i.i c.loop-i.builder.points c.observed_by.result loop.points
          (c.observed_by.ensures ∙ ap (λ k. observed_by k c.loop-i.i) c.props_of-props.ensures.props));
      deadline = ap (λ b. b.deadline) added ∙ loop.deadline;
      drafts = ap (λ b. b.drafts) added ∙ loop.drafts;
    }
