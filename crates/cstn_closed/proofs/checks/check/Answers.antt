use Rattle.std.proofs.Common.{refl}
use Rattle.cstn_net.specs.Read.{the_network}
use Rattle.cstn_plan.specs.Asked.{asked}
use Rattle.cstn_plan.proofs.Strategies.{asked_strategy}
use Rattle.cstn_closed.specs.Closed.{the_listed_bounds}
use Rattle.cstn_closed.specs.Faults.{bad, no_base, no_chain, no_wait}
use Rattle.cstn_closed.specs.declared.answers.ClosedAnswer.TheVariants.{Bad, NoBase, NoChain, NoWait}
use Rattle.cstn_closed.proofs.FaultLemmas.{first_bad, first_base, first_chain, first_wait, no_fault, faultless_closed, refused}
use Rattle.cstn_closed.proofs.checks.check.Goals as goal

pub returns-in-Some-clause-answer : goal.returns-in-Some-clause-answer
returns-in-Some-clause-answer c = first_bad (the_network c.args.net.now) (the_listed_bounds c.args.closed.now) c.in-Some.at c.in-Some.ensures.some

pub returns-in-Some-clause-accepted : goal.returns-in-Some-clause-accepted
returns-in-Some-clause-accepted c =
    refused (the_network c.args.net.now) (the_listed_bounds c.args.closed.now) (bad c.in-Some.at) (Bad c.in-Some.at) (λ e. cc) (returns-in-Some-clause-answer c)

pub returns-in-Some-first_without_base-clause-answer :
    goal.returns-in-Some-first_without_base-clause-answer
returns-in-Some-first_without_base-clause-answer c =
    first_base (the_network c.args.net.now) (the_listed_bounds c.args.closed.now) c.in-Some-first_without_base.node.0 c.in_default.ensures.none
    c.in-Some-first_without_base.ensures.some

pub returns-in-Some-first_without_base-clause-accepted :
    goal.returns-in-Some-first_without_base-clause-accepted
returns-in-Some-first_without_base-clause-accepted c =
    refused (the_network c.args.net.now) (the_listed_bounds c.args.closed.now) (no_base c.in-Some-first_without_base.node.0) (NoBase c.in-Some-first_without_base.node) (λ e. cc)
    (returns-in-Some-first_without_base-clause-answer c)

pub returns-in-Some-first_chain-clause-answer : goal.returns-in-Some-first_chain-clause-answer
returns-in-Some-first_chain-clause-answer c =
    first_chain (the_network c.args.net.now) (the_listed_bounds c.args.closed.now) c.in-Some-first_chain.constraint c.in-Some-first_chain.at c.in_default.ensures.none
    c.in_default-first_without_base.ensures.none c.in-Some-first_chain.ensures.some

pub returns-in-Some-first_chain-clause-accepted : goal.returns-in-Some-first_chain-clause-accepted
returns-in-Some-first_chain-clause-accepted c =
    refused (the_network c.args.net.now) (the_listed_bounds c.args.closed.now) (no_chain c.in-Some-first_chain.constraint c.in-Some-first_chain.at)
    (NoChain c.in-Some-first_chain.constraint c.in-Some-first_chain.at) (λ e. cc) (returns-in-Some-first_chain-clause-answer c)

pub returns-in-Some-first_wait-clause-answer : goal.returns-in-Some-first_wait-clause-answer
returns-in-Some-first_wait-clause-answer c =
    first_wait (the_network c.args.net.now) (the_listed_bounds c.args.closed.now) c.in-Some-first_wait.seen c.in-Some-first_wait.at c.in_default.ensures.none
    c.in_default-first_without_base.ensures.none c.in_default-first_chain.ensures.none c.in-Some-first_wait.ensures.some

pub returns-in-Some-first_wait-clause-accepted : goal.returns-in-Some-first_wait-clause-accepted
returns-in-Some-first_wait-clause-accepted c =
    refused (the_network c.args.net.now) (the_listed_bounds c.args.closed.now) (no_wait c.in-Some-first_wait.seen c.in-Some-first_wait.at)
    (NoWait c.in-Some-first_wait.seen c.in-Some-first_wait.at) (λ e. cc) (returns-in-Some-first_wait-clause-answer c)

pub returns-in-None-clause-answer : goal.returns-in-None-clause-answer
returns-in-None-clause-answer c =
    no_fault (the_network c.args.net.now) (the_listed_bounds c.args.closed.now) c.in_default.ensures.none c.in_default-first_without_base.ensures.none
    c.in_default-first_chain.ensures.none c.in-None.ensures.none

pub returns-in-None-clause-accepted : goal.returns-in-None-clause-accepted
returns-in-None-clause-accepted c = (λ e. returns-in-None-clause-answer c, λ none. refl)

pub returns-in-None-clause-closed : goal.returns-in-None-clause-closed
returns-in-None-clause-closed c e =
    faultless_closed (the_network c.args.net.now) (the_listed_bounds c.args.closed.now) c.in_default.ensures.none c.in_default-first_without_base.ensures.none
    c.in_default-first_chain.ensures.none c.in-None.ensures.none

pub returns-in-None-clause-consistent : goal.returns-in-None-clause-consistent
returns-in-None-clause-consistent c e =
    let net = the_network c.args.net.now in
    let bounds = the_listed_bounds c.args.closed.now in
    (asked net bounds, asked_strategy net bounds c.network_is_well_formed.ensures.network (returns-in-None-clause-closed c e))
