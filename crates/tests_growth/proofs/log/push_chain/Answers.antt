use Rattle.cstn_label.specs.Read.{the_bound}
use Rattle.cstn_net.specs.Read.{the_network, the_constraint}
use Rattle.cstn_facts.proofs.Members.{contains_map}
use Rattle.cstn_log.proofs.DerivedLemmas.{chain_follows}
use Rattle.tests_growth.proofs.log.push_chain.Goals as goal

pub push-requires-clause-follows : goal.push-requires-clause-follows
push-requires-clause-follows c =
    let has = contains_map the_constraint c.args.net.now.constraints c.constraint_at-c.result c.constraint_at-c.ensures in
    chain_follows (the_network c.args.net.now) c.args.log.now.entries (the_constraint c.constraint_at-c.result) c.args.premise c.entry.result (the_bound c.in-Some.bound) has c.entry.ensures.entry c.in-Some.ensures.chain
