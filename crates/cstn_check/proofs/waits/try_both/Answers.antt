use Rattle.std.proofs.Common.{rules, [], ◌∷◌, arith, refl}
use Rattle.cstn_label.specs.Read.{the_bound}
use Rattle.cstn_net.specs.Read.{the_network}
use Rattle.cstn_log.specs.Entries.{the_entries}
use Rattle.cstn_check.specs.Growth.Instance.{wait_at}
use Rattle.cstn_check.proofs.Sequences.{refuted_step, step_open, step_refuted, step_then, refuted_then, cut_first}
use Rattle.cstn_check.proofs.TryLemmas.{taken_on, size_is, concludes_kept}
use Rattle.cstn_check.proofs.TurnLemmas.{has_bound, bound_had, bound_on}
use Rattle.cstn_check.proofs.waits.try_both.Goals as goal

pub try_wait-requires-clause-seen_bound : goal.try_wait-requires-clause-seen_bound
try_wait-requires-clause-seen_bound c = has_bound c.args.log.now.entries c.args.i c.bound.result c.bound.ensures.bound

pub try_wait-requires-in-Open-clause-seen_bound : goal.try_wait-requires-in-Open-clause-seen_bound
try_wait-requires-in-Open-clause-seen_bound c =
    bound_on c.args.log.now.entries c.try_wait.new.log.entries c.args.own.place (the_bound c.args.own.bound)
    (taken_on (the_network c.args.net.now) c.args.log.now c.try_wait.new.log (wait_at c.args.i c.args.own.place ∷ []) _ c.in_ok-try_wait.ensures.outcome.taken)
    (omega (arith, size_is c.args.log.now, c.requires.place)) c.requires.bound

pub try_wait-requires-in-Open-clause-bound : goal.try_wait-requires-in-Open-clause-bound
try_wait-requires-in-Open-clause-bound c =
    bound_on c.args.log.now.entries c.try_wait.new.log.entries c.args.i (the_bound c.bound.result)
    (taken_on (the_network c.args.net.now) c.args.log.now c.try_wait.new.log (wait_at c.args.i c.args.own.place ∷ []) _ c.in_ok-try_wait.ensures.outcome.taken)
    (omega (arith, size_is c.args.log.now, c.requires.first)) (has_bound c.args.log.now.entries c.args.i c.bound.result c.bound.ensures.bound)

pub try_wait-requires-in-Open-clause-ready : goal.try_wait-requires-in-Open-clause-ready
try_wait-requires-in-Open-clause-ready c = c.in_ok-try_wait.ensures.outcome.ready c.in-Open.is

pub try_wait-requires-in-Open-clause-seen : goal.try_wait-requires-in-Open-clause-seen
try_wait-requires-in-Open-clause-seen c = omega (arith, c.requires.place, c.in_ok-try_wait.ensures.outcome.taken.longer.longer)

pub try_wait-requires-in-Open-clause-place : goal.try_wait-requires-in-Open-clause-place
try_wait-requires-in-Open-clause-place c = omega (arith, c.requires.first, c.in_ok-try_wait.ensures.outcome.taken.longer.longer)

pub try_wait-requires-in-Open-clause-node : goal.try_wait-requires-in-Open-clause-node
try_wait-requires-in-Open-clause-node c =
    (bound_had (the_network c.args.net.now) c.args.log.now c.args.own.place (the_bound c.args.own.bound) c.requires.ready c.requires.bound).node

pub returns-in-Refuted-clause-outcome : goal.returns-in-Refuted-clause-outcome
returns-in-Refuted-clause-outcome c =
    refuted_step _ _ _ _
    (refuted_then (the_network c.args.net.now) c.args.log.now (wait_at c.args.i c.args.own.place ∷ []) (wait_at c.args.own.place c.args.i ∷ [])
    c.try_wait.new.log (step_refuted _ _ _ _ _ c.in-Refuted.is c.in_ok-try_wait.ensures.outcome))

pub returns-in_err-try_wait-clause-outcome : goal.returns-in_err-try_wait-clause-outcome
returns-in_err-try_wait-clause-outcome c = record {
  taken = search rules;
  cut = λ is. cut_first (the_network c.args.net.now) c.args.log.now (wait_at c.args.i c.args.own.place ∷ []) (wait_at c.args.own.place c.args.i ∷ [])
      c.try_wait.new.log (c.in_err-try_wait.ensures.outcome.cut refl);
  ready = search rules;
}

pub returns-in-Open-clause-outcome : goal.returns-in-Open-clause-outcome
returns-in-Open-clause-outcome c =
    step_then (the_network c.args.net.now) c.args.log.now c.try_wait.new.log c.try_wait-in-Open.new.log
    (wait_at c.args.i c.args.own.place ∷ []) (wait_at c.args.own.place c.args.i ∷ [])
    (wait_at c.args.i c.args.own.place ∷ (wait_at c.args.own.place c.args.i ∷ [])) c.try_wait-in-Open.result refl
    (step_open _ _ _ _ _ c.in-Open.is c.in_ok-try_wait.ensures.outcome) c.try_wait-in-Open.ensures.outcome

pub returns-in-Open-clause-counted : goal.returns-in-Open-clause-counted
returns-in-Open-clause-counted c =
    let more = taken_on (the_network c.args.net.now) c.args.log.now c.try_wait.new.log (wait_at c.args.i c.args.own.place ∷ []) _ c.in_ok-try_wait.ensures.outcome.taken in
    let size = size_is c.args.log.now in
    let kept = concludes_kept (the_network c.args.net.now) (the_entries c.args.log.now.entries) (the_entries c.try_wait.new.log.entries) c.args.own.place c.args.i more
    (omega (arith, size, c.requires.place)) (omega (arith, size, c.requires.first)) in
    record {
      low = omega (arith, c.in_ok-try_wait.ensures.counted.low, c.try_wait-in-Open.ensures.counted.low);
      most = omega (arith, kept, c.in_ok-try_wait.ensures.counted.most, c.try_wait-in-Open.ensures.counted.most);
    }

pub returns-in-Refuted-clause-counted : goal.returns-in-Refuted-clause-counted
returns-in-Refuted-clause-counted c = record {
  low = c.in_ok-try_wait.ensures.counted.low;
  most = omega (arith, c.in_ok-try_wait.ensures.counted.most);
}

pub returns-in_err-try_wait-clause-counted : goal.returns-in_err-try_wait-clause-counted
returns-in_err-try_wait-clause-counted c = record {
  low = c.in_err-try_wait.ensures.counted.low;
  most = omega (arith, c.in_err-try_wait.ensures.counted.most);
}
