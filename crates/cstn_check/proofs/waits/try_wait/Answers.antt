use Rattle.std.proofs.lemmas.Bool.{false≢true}
use Rattle.cstn_label.specs.Read.{the_bound}
use Rattle.cstn_net.specs.Read.{the_network}
use Rattle.cstn_check.specs.Growth.Instance.{wait_at}
use Rattle.cstn_check.proofs.Sequences.{open_step}
use Rattle.cstn_check.proofs.TurnLemmas.{idle_none, wait_ends_from}
use Rattle.cstn_check.proofs.waits.try_wait.Goals as goal

pub returns-then-not-waits-clause-outcome : goal.returns-then-not-waits-clause-outcome
returns-then-not-waits-clause-outcome c =
    open_step _ _ _ _
    (idle_none (the_network c.args.net.now) c.args.log.now (wait_at c.args.seen.place c.args.premise.place) c.requires.ready
    (wait_ends_from _ _ c.network_is_well_formed.ensures c.requires.ready c.args.seen.place c.args.premise.place (the_bound c.args.seen.bound) (the_bound c.args.premise.bound)
    c.requires.seen_bound c.requires.bound
    (λ p r w. false≢true (c.if-not-waits.ensures.waits.1 (record { prop = p; observes = w.observes; marked = w.marked })))))
    c.requires.ready
