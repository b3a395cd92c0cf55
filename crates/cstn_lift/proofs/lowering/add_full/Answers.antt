use Rattle.std.proofs.Common.{◌≡◌, ◌<◌, take, length, arith, subst, ◌∙◌}
use Rattle.std.specs.Prelude.{map, slice_index_or}
use Rattle.std.specs.List.{filter_map}
use Rattle.cstn_net.specs.Read.{the_constraint}
use Rattle.cstn_lift.specs.Lowered.{with_full_label}
use Rattle.cstn_lift.specs.Read.{with_labels}
use Rattle.cstn_lift.specs.Handed.{HasConstraints}
use Rattle.cstn_lift.proofs.Built.{full_turn}
use Rattle.cstn_lift.proofs.lowering.add_full.Goals as goal

pub loop-c-preserved : goal.loop-c-preserved
loop-c-preserved c =
    let m = with_labels c.args.net.now c.args.labels.now in
    let cs = c.args.net.now.constraints in
    let i = c.loop-c.c-index in
    let loop = c.loop-c.invariant in
    let given = c.constraints-c-items.ensures.constraints in
    let item = c.c-item.result in
    let inside = subst (λ xs. i < length xs) given c.loop-c-test.true in
    let is = subst (λ xs. item ≡ slice_index_or xs i item) given c.c-item.is in
    let few = c.in_ok-add_one_full.ensures.few in
    record {
      added = subst (λ es. HasConstraints es c.add_one_full.new.builder.drafts) (full_turn m cs i item inside is)
          (c.in_ok-add_one_full.ensures.added (filter_map (with_full_label m) (map the_constraint (take i cs))) loop.added);
      few = omega (arith, few, loop.few);
      deadline = c.in_ok-add_one_full.ensures.rest.0 ∙ loop.deadline;
      points = c.in_ok-add_one_full.ensures.rest.1 ∙ loop.points;
    }
