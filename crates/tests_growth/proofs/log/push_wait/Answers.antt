use Rattle.cstn_label.specs.Read.{the_bound}
use Rattle.cstn_net.specs.Read.{the_network}
use Rattle.cstn_log.proofs.DerivedLemmas.{wait_follows}
use Rattle.tests_growth.proofs.log.push_wait.Goals as goal

pub push-requires-clause-follows : goal.push-requires-clause-follows
push-requires-clause-follows c =
    let waits = c.in-Some.ensures.wait in
    wait_follows (the_network c.args.net.now) c.args.log.now.entries waits.0 c.args.seen c.args.premise c.entry.result c.entry-2.result (the_bound c.in-Some.bound) c.entry.ensures.entry c.entry-2.ensures.entry waits.1
