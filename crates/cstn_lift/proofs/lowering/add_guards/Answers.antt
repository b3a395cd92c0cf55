use Rattle.std.proofs.Common.{◌++◌, arith, subst, ◌∙◌}
use Rattle.std.specs.Prelude.{map}
use Rattle.std.specs.List.{flat_map, range_with_len}
use Rattle.cstn_label.specs.Read.{marks}
use Rattle.cstn_net.specs.Read.{the_network}
use Rattle.cstn_lift.specs.Lowered.{guards_of, guards_with}
use Rattle.cstn_lift.specs.Handed.{HasConstraints}
use Rattle.cstn_lift.proofs.Built.{points_turn}
use Rattle.cstn_lift.proofs.LabelLemmas.{label_there}
use Rattle.cstn_lift.proofs.lowering.add_guards.Goals as goal

pub loop-x-preserved : goal.loop-x-preserved
loop-x-preserved c =
    let net = the_network c.args.net.now in
    let own = map marks c.args.whole.now in
    let x = c.loop-x.x in
    let loop = c.loop-x.invariant in
    let size = c.requires.one_each in
    let count = c.count-x-end.ensures.count in
    let few = c.in_ok-add_guards_of.ensures.few in
    let is = label_there c.args.whole.now c.index.result x c.index-whole-index.result (omega arith) c.index.ensures.index c.index-whole-index.is in
    record {
      added = λ cs has.
          let before = cs ++ flat_map (guards_with net own) (range_with_len 0 x) in
          subst (λ es. HasConstraints es c.add_guards_of.new.builder.drafts) (points_turn (guards_with net own) cs x)
          (subst (λ a. HasConstraints (before ++ guards_of net x a) c.add_guards_of.new.builder.drafts) is
          (c.in_ok-add_guards_of.ensures.added before (loop.added cs has)));
      few = omega (arith, few, loop.few);
      deadline = c.in_ok-add_guards_of.ensures.rest.0 ∙ loop.deadline;
      points = c.in_ok-add_guards_of.ensures.rest.1 ∙ loop.points;
    }
