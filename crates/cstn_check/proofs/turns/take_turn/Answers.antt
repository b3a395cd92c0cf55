use Rattle.std.proofs.Common.{rules, ◌+◌, map, true, arith, refl, subst}
use Rattle.cstn_net.specs.Read.{the_network, the_constraint}
use Rattle.cstn_log.specs.Entries.{the_entries}
use Rattle.cstn_check.specs.Growth.{tried, chains_at, waits_below, turn}
use Rattle.cstn_check.specs.Turns.{HasBecome, IsCutShort}
use Rattle.cstn_check.proofs.Sequences.{refuted_step, step_open, step_refuted, step_then, refuted_then, cut_first, turn_is}
use Rattle.cstn_check.proofs.SpentLemmas.{spent_after}
use Rattle.cstn_check.proofs.TryLemmas.{taken_on, size_is, upto_kept}
use Rattle.cstn_check.proofs.turns.take_turn.Goals as goal

pub try_new_waits-requires-clause-ready : goal.try_new_waits-requires-clause-ready
try_new_waits-requires-clause-ready c = c.in_ok-try_chains.ensures.outcome.ready c.in-Open.is

pub try_new_waits-requires-clause-place : goal.try_new_waits-requires-clause-place
try_new_waits-requires-clause-place c = omega (arith, c.requires.place, c.in_ok-try_chains.ensures.outcome.taken.longer.longer)

pub try_new_waits-requires-clause-spent : goal.try_new_waits-requires-clause-spent
try_new_waits-requires-clause-spent c =
    spent_after (the_network c.args.net.now) c.args.log.now c.try_chains.new.log (chains_at (map the_constraint c.args.net.now.constraints) c.args.j) _
    c.args.fresh.now c.args.old c.in_ok-try_chains.ensures.outcome.taken c.requires.front c.requires.spent

pub returns-in-Refuted-clause-outcome : goal.returns-in-Refuted-clause-outcome
returns-in-Refuted-clause-outcome c =
    refuted_step _ _ _ _
    (subst (λ l. HasBecome (the_network c.args.net.now) c.args.log.now c.try_chains.new.log (tried (the_network c.args.net.now) (the_entries c.args.log.now.entries) l) true)
    (turn_is c.args.net.now c.args.net.now.constraints c.args.j refl)
    (refuted_then (the_network c.args.net.now) c.args.log.now (chains_at (map the_constraint c.args.net.now.constraints) c.args.j)
    (waits_below (c.args.j + 1) c.args.j) c.try_chains.new.log
    (step_refuted _ _ _ _ _ c.in-Refuted.is c.in_ok-try_chains.ensures.outcome)))

pub returns-in-Open-clause-outcome : goal.returns-in-Open-clause-outcome
returns-in-Open-clause-outcome c =
    step_then (the_network c.args.net.now) c.args.log.now c.try_chains.new.log c.try_new_waits.new.log
    (chains_at (map the_constraint c.args.net.now.constraints) c.args.j) (waits_below (c.args.j + 1) c.args.j)
    (turn (the_network c.args.net.now) c.args.j) c.try_new_waits.result (turn_is c.args.net.now c.args.net.now.constraints c.args.j refl)
    (step_open _ _ _ _ _ c.in-Open.is c.in_ok-try_chains.ensures.outcome) c.try_new_waits.ensures.outcome

pub returns-in_err-try_chains-clause-outcome : goal.returns-in_err-try_chains-clause-outcome
returns-in_err-try_chains-clause-outcome c = record {
  taken = search rules;
  cut = λ is. subst (λ l. IsCutShort c.args.log.now c.try_chains.new.log (tried (the_network c.args.net.now) (the_entries c.args.log.now.entries) l))
      (turn_is c.args.net.now c.args.net.now.constraints c.args.j refl)
      (cut_first (the_network c.args.net.now) c.args.log.now (chains_at (map the_constraint c.args.net.now.constraints) c.args.j)
      (waits_below (c.args.j + 1) c.args.j) c.try_chains.new.log (c.in_err-try_chains.ensures.outcome.cut refl));
  ready = search rules;
}

pub returns-in-Open-clause-counted : goal.returns-in-Open-clause-counted
returns-in-Open-clause-counted c =
    let more = taken_on (the_network c.args.net.now) c.args.log.now c.try_chains.new.log (chains_at (map the_constraint c.args.net.now.constraints) c.args.j) _ c.in_ok-try_chains.ensures.outcome.taken in
    let kept = upto_kept (the_network c.args.net.now) (the_entries c.args.log.now.entries) (the_entries c.try_chains.new.log.entries) c.args.j more (omega (arith, size_is c.args.log.now, c.requires.place)) in
    record {
      low = omega (arith, c.in_ok-try_chains.ensures.counted.low, c.try_new_waits.ensures.counted.low);
      most = omega (arith, kept, c.in_ok-try_chains.ensures.counted.most, c.try_new_waits.ensures.counted.most);
    }

pub returns-in-Refuted-clause-counted : goal.returns-in-Refuted-clause-counted
returns-in-Refuted-clause-counted c = record {
  low = c.in_ok-try_chains.ensures.counted.low;
  most = omega (arith, c.in_ok-try_chains.ensures.counted.most);
}

pub returns-in_err-try_chains-clause-counted : goal.returns-in_err-try_chains-clause-counted
returns-in_err-try_chains-clause-counted c = record {
  low = c.in_err-try_chains.ensures.counted.low;
  most = omega (arith, c.in_err-try_chains.ensures.counted.most);
}
