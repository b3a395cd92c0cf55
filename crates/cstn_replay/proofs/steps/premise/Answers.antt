use Rattle.std.proofs.Common.{◌<◌, map, arith}
use Rattle.cstn_net.specs.Read.{the_network}
use Rattle.cstn_rules.specs.Read.{the_entry}
use Rattle.cstn_replay.proofs.StepLemmas.{earlier, all_within, steps_low, there_image}
use Rattle.cstn_replay.proofs.steps.premise.Goals as goal

pub returns-clause-earlier : goal.returns-clause-earlier
returns-clause-earlier c =
    let inside = c.if-i-k.false in
    let before : c.args.i < c.args.k = omega arith in
    earlier c.args.steps.now c.args.k c.args.i c.step_at-step.result before c.step_at-step.ensures.step

pub returns-clause-range : goal.returns-clause-range
returns-clause-range c =
    let inside = c.if-i-k.false in
    let before : c.args.i < c.args.k = omega arith in
    all_within c.conclusions_stay_within.ensures.chain c.conclusions_stay_within.ensures.wait (the_network c.args.net.now) (map the_entry c.args.steps.now) c.args.k c.network_is_well_formed.ensures.network
    (steps_low c.args.steps.now c.requires.form.each) c.requires.before c.args.i (the_entry c.step_at-step.result) before
    (there_image c.args.steps.now c.args.i c.step_at-step.result c.step_at-step.ensures.step)
