use Rattle.std.proofs.Common.{rules, ◌≡◌, ap, ◌∙◌, arith, to_z, of_z, w32}
use Rattle.std.specs.Prelude.{pos, ◌+ℤ◌}
use Rattle.std.specs.Int.{int_min}
use Rattle.std.proofs.lemmas.Int.{ints, clamps}
use Rattle.cstn_label.specs.Labels.{joined}
use Rattle.cstn_label.specs.Read.{marks}
use Rattle.cstn_net.specs.Read.{the_network}
use Rattle.cstn_rules.specs.Rules.{finished}
use Rattle.cstn_rules.proofs.Shapes.{limit_small, same_bound}
use Rattle.cstn_rules.proofs.rules.wait_for.Goals as goal

pub overflow_add-until : goal.overflow_add-until
overflow_add-until c =
    let small = limit_small (the_network c.args.net.now) c.args.seen.now.node.0 c.network_is_well_formed.ensures in
    let low = c.requires.seen.low in
    let high = c.requires.seen.high in
    let ticks = c.reaction.ensures.range in
    let here = c.reaction.ensures.reaction in
    omega (arith, ints)

pub returns-clause-wait : goal.returns-clause-wait
returns-clause-wait c =
    let small = limit_small (the_network c.args.net.now) c.args.seen.now.node.0 c.network_is_well_formed.ensures in
    let low = c.requires.seen.low in
    let high = c.requires.seen.high in
    let ticks = c.reaction.ensures.range in
    let here = c.reaction.ensures.reaction in
    let value = c.min.ensures.value in
    let least : to_z w32 (of_z w32 c.min.result) ≡ int_min (c.args.seen.now.least +ℤ pos ((the_network c.args.net.now).reaction c.args.p.index)) c.args.b.now.least = omega (arith, ints, clamps) in
    let label = c.join.ensures.join ∙ ap (joined (marks c.args.seen.now.label)) c.without.ensures.without in
    record {
      observes = c.requires.observes;
      marked = search rules;
      gives = c.finish.ensures ∙ ap (finished (the_network c.args.net.now)) (same_bound _ _ _ _ _ least label);
    }
