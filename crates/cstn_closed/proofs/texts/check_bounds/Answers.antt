use Rattle.std.proofs.Common.{◌≡◌}
use Rattle.cstn_net.specs.Read.{the_network}
use Rattle.cstn_closed.specs.Closed.{the_listed_bounds}
use Rattle.cstn_closed.specs.Faults.{no_chain, no_wait}
use Rattle.cstn_closed.specs.declared.answers.ClosedAnswer.TheVariants.{Accepted}
use Rattle.cstn_closed.proofs.Certifying.{fault_said, faultless_said}
use Rattle.cstn_closed.proofs.texts.check_bounds.Goals as goal

pub returns-in-NoChain : goal.returns-in-NoChain
returns-in-NoChain c = record {
  said =
      fault_said c.args.names.now (the_listed_bounds c.args.closed.now) (the_network c.args.network.now) (no_chain c.in-NoChain.constraint c.in-NoChain.at) c.no_chain.result c.in-NoChain.ensures.answer c.no_chain.ensures.said;
}

pub returns-in-NoWait : goal.returns-in-NoWait
returns-in-NoWait c = record {
  said =
      fault_said c.args.names.now (the_listed_bounds c.args.closed.now) (the_network c.args.network.now) (no_wait c.in-NoWait.seen c.in-NoWait.at) c.no_wait.result c.in-NoWait.ensures.answer c.no_wait.ensures.said;
}

pub returns-in-Accepted : goal.returns-in-Accepted
returns-in-Accepted c = record {
  said =
      let is = c.in-Accepted.is in
      let same : c.check.result ≡ Accepted = cc in
      faultless_said c.args.names.now (the_listed_bounds c.args.closed.now) (the_network c.args.network.now) c.accepted.result (c.check.ensures.accepted.0 same) (c.check.ensures.closed same) c.accepted.ensures.said;
}
