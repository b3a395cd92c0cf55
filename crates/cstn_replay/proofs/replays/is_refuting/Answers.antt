use Rattle.std.proofs.Common.{map, ◌-◌, length}
use Rattle.std.proofs.lemmas.Option.{slice_get_within}
use Rattle.cstn_net.specs.Read.{the_network}
use Rattle.cstn_rules.specs.Read.{the_entry}
use Rattle.cstn_replay.proofs.StepLemmas.{all_within, steps_low, last_image}
use Rattle.cstn_replay.proofs.ReplayLemmas.{derivation_right, last_refutes}
use Rattle.cstn_replay.proofs.replays.is_refuting.Goals as goal

pub refutes-requires : goal.refutes-requires
refutes-requires c =
    let net = the_network c.args.net.now in
    let steps = map the_entry c.args.steps.now in
    let last = the_entry c.step_at-last.result in
    let there = last_image c.args.steps.now c.step_at-last.result c.step_at-last.ensures.step in
    let within = all_within c.conclusions_stay_within.ensures.chain c.conclusions_stay_within.ensures.wait net steps (length steps) c.network_is_well_formed.ensures.network
    (steps_low c.args.steps.now c.requires.form.each) (derivation_right net steps (length steps) c.requires.derivation) in
    record { node = (within (length steps - 1) last (slice_get_within steps (length steps - 1) last there) there).node }

pub returns : goal.returns
returns c =
    let last = last_refutes (the_network c.args.net.now) (map the_entry c.args.steps.now) (the_entry c.step_at-last.result)
    c.requires.derivation (last_image c.args.steps.now c.step_at-last.result c.step_at-last.ensures.step) in
    record { refuting = (λ t. last.0 (c.refutes.ensures.refutes.0 t), λ r. c.refutes.ensures.refutes.1 (last.1 r)) }
