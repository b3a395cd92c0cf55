use Rattle.std.proofs.Common.{◌++◌, arith, subst, ◌∙◌}
use Rattle.std.specs.List.{filter_map, range_with_len}
use Rattle.cstn_label.specs.Read.{marks}
use Rattle.cstn_net.specs.Read.{the_network}
use Rattle.cstn_lift.specs.Lowered.{guard}
use Rattle.cstn_lift.specs.Handed.{HasConstraints}
use Rattle.cstn_lift.proofs.Built.{guards_turn, guards_end}
use Rattle.cstn_lift.proofs.lowering.add_guards_of.Goals as goal

pub loop-p-preserved : goal.loop-p-preserved
loop-p-preserved c =
    let net = the_network c.args.net.now in
    let a = marks c.args.label in
    let x = c.args.x.0 in
    let loop = c.loop-p.invariant in
    let from = c.loop-p.from in
    let few = c.in_ok-add_guard.ensures.few in
    let upto = c.in-Some.ensures.from in
    let letter = c.in-Some.p.in_range in
    record {
      range = omega arith;
      added = λ cs has. subst (λ es. HasConstraints es c.add_guard.new.builder.drafts)
          (guards_turn net x a cs from c.in-Some.p.index upto c.in-Some.ensures.least)
          (c.in_ok-add_guard.ensures.added (cs ++ filter_map (guard net x a) (range_with_len 0 from)) (loop.added cs has));
      few = omega (arith, few, loop.few, upto);
      deadline = c.in_ok-add_guard.ensures.rest.0 ∙ loop.deadline;
      points = c.in_ok-add_guard.ensures.rest.1 ∙ loop.points;
    }

pub returns-clause-added : goal.returns-clause-added
returns-clause-added c = λ cs has.
    let loop = c.loop-p.invariant in
    subst (λ es. HasConstraints es c.loop-p.builder.drafts)
    (guards_end (the_network c.args.net.now) c.args.x.0 (marks c.args.label) cs c.loop-p.from loop.range c.in_default.ensures.none) (loop.added cs has)
