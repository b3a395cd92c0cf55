use Rattle.cstn_net.specs.Read.{the_network}
use Rattle.cstn_rules.specs.Read.{the_entry}
use Rattle.cstn_replay.proofs.StepLemmas.{right_there, there_image}
use Rattle.cstn_replay.proofs.steps.follows.Goals as goal

pub returns : goal.returns
returns c =
    let step = c.step_at-step.result in
    let there = c.step_at-step.ensures.step in
    record {
      follows = (
        λ t. right_there (the_network c.args.net.now) c.args.steps.now c.args.k step there (c.is_given.ensures.given.0 t),
        λ right. c.is_given.ensures.given.1 (right (the_entry step) (there_image c.args.steps.now c.args.k step there)),
      );
    }
