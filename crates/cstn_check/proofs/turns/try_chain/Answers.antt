use Rattle.std.proofs.Common.{arith}
use Rattle.std.proofs.lemmas.Bool.{false≢true}
use Rattle.cstn_label.specs.Read.{the_bound}
use Rattle.cstn_net.specs.Read.{the_network, the_constraint}
use Rattle.cstn_check.specs.Growth.Instance.{chain_at}
use Rattle.cstn_check.proofs.TurnLemmas.{bound_in, idle_dead, idle_none, put_is_step, live_chain, dead_chain, chain_follows_from, chain_concludes_from, chain_ends_from}
use Rattle.cstn_check.proofs.Sequences.{open_step, put_stepped}
use Rattle.cstn_check.proofs.turns.try_chain.Goals as goal

pub returns-then-not-live-clause-outcome : goal.returns-then-not-live-clause-outcome
returns-then-not-live-clause-outcome c =
    open_step _ _ _ _
    (idle_dead (the_network c.args.net.now) c.args.log.now (chain_at (the_constraint c.args.c.now) c.args.j) c.requires.ready
    (dead_chain _ _ c.constraint_is_of_network.ensures.network c.requires.ready (the_constraint c.args.c.now) c.args.j
    (λ live. false≢true (c.if-not-live.ensures.live.1 live))))
    c.requires.ready

pub chain-requires-clause-bound : goal.chain-requires-clause-bound
chain-requires-clause-bound c =
    bound_in (the_network c.args.net.now) c.args.log.now c.args.j c.bound-premise.result c.requires.ready c.bound-premise.ensures.bound

pub returns-in_default-clause-outcome : goal.returns-in_default-clause-outcome
returns-in_default-clause-outcome c =
    open_step _ _ _ _
    (idle_none (the_network c.args.net.now) c.args.log.now (chain_at (the_constraint c.args.c.now) c.args.j) c.requires.ready
    (chain_ends_from _ _ c.constraint_is_of_network.ensures.network c.requires.ready (the_constraint c.args.c.now) c.args.j c.bound-premise.result
    c.constraint_is_of_network.ensures.constraint c.bound-premise.ensures.bound c.in_default.ensures.none))
    c.requires.ready

pub returns-in_default-clause-counted : goal.returns-in_default-clause-counted
returns-in_default-clause-counted c = record {
  low = omega (arith, c.chain.ensures.counted, c.count_is_in_range.ensures);
  most = omega (arith, c.chain.ensures.counted);
}

pub put-requires-clause-follows : goal.put-requires-clause-follows
put-requires-clause-follows c =
    chain_follows_from (the_network c.args.net.now) c.args.log.now (the_constraint c.args.c.now) c.args.j c.bound-premise.result
    (the_bound c.in-Some.bound) c.constraint_is_of_network.ensures.constraint c.bound-premise.ensures.bound c.in-Some.ensures.chain

pub returns-clause-outcome : goal.returns-clause-outcome
returns-clause-outcome c =
    put_stepped (the_network c.args.net.now) c.args.log.now c.put.new.log (chain_at (the_constraint c.args.c.now) c.args.j) _ c.put.result
    c.constraint_is_of_network.ensures.network c.constraint_is_of_network.ensures.constraint c.requires.ready
    (put_is_step (the_network c.args.net.now) c.args.log.now (chain_at (the_constraint c.args.c.now) c.args.j)
    (the_bound c.in-Some.bound) c.requires.ready
    (live_chain _ _ c.constraint_is_of_network.ensures.network c.requires.ready (the_constraint c.args.c.now) c.args.j c.requires.place
    (c.live.ensures.live.0 c.if-not-live.false))
    (chain_concludes_from _ _ c.constraint_is_of_network.ensures.network c.requires.ready (the_constraint c.args.c.now) c.args.j c.bound-premise.result
    (the_bound c.in-Some.bound) c.bound-premise.ensures.bound c.in-Some.ensures.chain))
    c.put.ensures.taken c.put.ensures.cut

pub returns-clause-counted : goal.returns-clause-counted
returns-clause-counted c = record {
  low = omega (arith, c.chain.ensures.counted, c.count_is_in_range.ensures);
  most = omega (arith, c.chain.ensures.counted);
}
