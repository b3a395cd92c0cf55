use Rattle.std.proofs.Common.{◌≡◌}
use Rattle.cstn_net.specs.Read.{the_network}
use Rattle.cstn_refute.specs.Refutations.{the_steps}
use Rattle.cstn_replay.specs.declared.answers.Answer.TheVariants.{Rejected}
use Rattle.cstn_replay.proofs.Saying.{rejected_said}
use Rattle.cstn_replay.proofs.texts.replay_steps.Goals as goal

pub returns-in-Rejected : goal.returns-in-Rejected
returns-in-Rejected c = record {
  said =
      let is = c.in-Rejected.is in
      let same : c.replay.result ≡ Rejected c.in-Rejected.step = cc in
      rejected_said (the_network c.args.network.now) (the_steps c.args.refutation.now) c.in-Rejected.step c.rejected.result
      ((c.replay.ensures.rejected c.in-Rejected.step).0 same) c.rejected.ensures.said;
}
