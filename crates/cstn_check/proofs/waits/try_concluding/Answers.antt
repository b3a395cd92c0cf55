use Rattle.std.proofs.Common.{◌≡◌, ap, arith}
use Rattle.std.proofs.lemmas.Bool.{false≢true}
use Rattle.cstn_label.specs.Read.{the_bound}
use Rattle.cstn_net.specs.Read.{the_network}
use Rattle.cstn_check.specs.Growth.Instance.{wait_at}
use Rattle.cstn_log.specs.Entries.{the_entries}
use Rattle.cstn_check.specs.Tries.{how_many, concludes}
use Rattle.cstn_check.proofs.TurnLemmas.{bound_had, idle_dead, idle_none, put_is_step, live_wait, dead_seen, dead_other, wait_follows_from, wait_concludes_from, wait_ends_from}
use Rattle.cstn_check.proofs.Sequences.{open_step, put_stepped}
use Rattle.cstn_check.proofs.waits.try_concluding.Goals as goal

pub returns-then-not-live-clause-outcome : goal.returns-then-not-live-clause-outcome
returns-then-not-live-clause-outcome c =
    (open_step _ _ _ _ (idle_dead (the_network c.args.net.now) c.args.log.now (wait_at c.args.seen.place c.args.premise.place) c.requires.ready
    (dead_seen _ _ c.network_is_well_formed.ensures c.requires.ready c.args.seen.place c.args.premise.place
    (λ live. false≢true (c.if-not-live.ensures.live.1 live))))
    c.requires.ready)

pub returns-then-not-live-2-clause-outcome : goal.returns-then-not-live-2-clause-outcome
returns-then-not-live-2-clause-outcome c =
    (open_step _ _ _ _ (idle_dead (the_network c.args.net.now) c.args.log.now (wait_at c.args.seen.place c.args.premise.place) c.requires.ready
    (dead_other _ _ c.network_is_well_formed.ensures c.requires.ready c.args.seen.place c.args.premise.place
    (λ live. false≢true (c.if-not-live-2.ensures.live.1 live))))
    c.requires.ready)

pub returns-in_default-clause-outcome : goal.returns-in_default-clause-outcome
returns-in_default-clause-outcome c =
    open_step _ _ _ _
    (idle_none (the_network c.args.net.now) c.args.log.now (wait_at c.args.seen.place c.args.premise.place) c.requires.ready
    (wait_ends_from _ _ c.network_is_well_formed.ensures c.requires.ready c.args.seen.place c.args.premise.place (the_bound c.args.seen.bound) (the_bound c.args.premise.bound)
    c.requires.seen_bound c.requires.bound c.in_default.ensures.none))
    c.requires.ready

pub wait-requires-clause-seen : goal.wait-requires-clause-seen
wait-requires-clause-seen c =
    bound_had (the_network c.args.net.now) c.args.log.now c.args.seen.place (the_bound c.args.seen.bound) c.requires.ready c.requires.seen_bound

pub wait-requires-clause-bound : goal.wait-requires-clause-bound
wait-requires-clause-bound c =
    bound_had (the_network c.args.net.now) c.args.log.now c.args.premise.place (the_bound c.args.premise.bound) c.requires.ready c.requires.bound

pub put-requires-clause-follows : goal.put-requires-clause-follows
put-requires-clause-follows c =
    let w = c.in-Some.ensures.wait in
    wait_follows_from (the_network c.args.net.now) c.args.log.now w.0 c.args.seen.place c.args.premise.place (the_bound c.args.seen.bound) (the_bound c.args.premise.bound)
    (the_bound c.in-Some.bound) c.requires.seen_bound c.requires.bound w.1

pub returns-clause-outcome : goal.returns-clause-outcome
returns-clause-outcome c =
    let w = c.in-Some.ensures.wait in
    (put_stepped (the_network c.args.net.now) c.args.log.now c.put.new.log (wait_at c.args.seen.place c.args.premise.place) _
    c.put.result c.network_is_well_formed.ensures tt c.requires.ready
    (put_is_step (the_network c.args.net.now) c.args.log.now (wait_at c.args.seen.place c.args.premise.place)
    (the_bound c.in-Some.bound) c.requires.ready
    (live_wait _ _ c.network_is_well_formed.ensures c.requires.ready c.args.seen.place c.args.premise.place c.requires.seen c.requires.place
    (c.live.ensures.live.0 c.if-not-live.false) (c.live-2.ensures.live.0 c.if-not-live-2.false))
    (wait_concludes_from _ _ c.network_is_well_formed.ensures c.requires.ready c.args.seen.place c.args.premise.place (the_bound c.args.seen.bound) (the_bound c.args.premise.bound) w.0
    (the_bound c.in-Some.bound) c.requires.seen_bound c.requires.bound w.1))
    c.put.ensures.taken c.put.ensures.cut)

pub returns-clause-counted : goal.returns-clause-counted
returns-clause-counted c =
    let w = c.in-Some.ensures.wait in
    let one : concludes (the_network c.args.net.now) (the_entries c.args.log.now.entries) c.args.seen.place c.args.premise.place ≡ 1 =
    ap how_many (wait_concludes_from _ _ c.network_is_well_formed.ensures c.requires.ready c.args.seen.place c.args.premise.place (the_bound c.args.seen.bound) (the_bound c.args.premise.bound) w.0
    (the_bound c.in-Some.bound) c.requires.seen_bound c.requires.bound w.1) in
    record { low = omega (arith, c.wait.ensures.counted, c.count_is_in_range.ensures); most = omega (arith, one, c.wait.ensures.counted) }
