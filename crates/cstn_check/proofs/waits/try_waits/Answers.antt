use Rattle.std.proofs.Common.{rules, ℕ, suc, ◌≡◌, ◌<◌, ◌+◌, [], ◌∷◌, length, false, arith, refl, sym, ap, subst}
use Rattle.std.proofs.lemmas.Bool.{false≢true}
use Rattle.cstn_net.specs.Read.{the_network}
use Rattle.cstn_check.specs.Growth.{tried, waits_below}
use Rattle.cstn_check.specs.Turns.{HasBecome}
use Rattle.cstn_check.specs.Steps.{is_refutation}
use Rattle.cstn_check.specs.Growth.Instance.{wait_at}
use Rattle.cstn_check.proofs.TurnLemmas.{idle, has_bound, bound_on}
use Rattle.cstn_check.proofs.Sequences.{open_step, refuted_step, step_open, go_on, go_true, go_cut, waits_next, waits_whole}
use Rattle.cstn_check.proofs.SpentLemmas.{waits_to}
use Rattle.cstn_log.specs.Entries.{the_entries}
use Rattle.cstn_check.specs.Tries.{concludes_with}
use Rattle.cstn_check.proofs.TryLemmas.{total_upto, pairs_step, taken_on, size_is}
use Rattle.cstn_label.specs.Read.{the_bound}
use Rattle.cstn_check.proofs.SiftLemmas.{waits_dead, open_on, inside_past, past, had_on, ahead_on}
use Rattle.cstn_check.proofs.waits.try_waits.Goals as goal

pub returns-then-not-live-clause-outcome : goal.returns-then-not-live-clause-outcome
returns-then-not-live-clause-outcome c =
    open_step _ _ _ _
    (waits_dead (the_network c.args.net.now) c.args.log.now c.args.j c.requires.ready (λ live. false≢true (c.if-not-live.ensures.live.1 live)))
    c.requires.ready

pub loop-i-init : goal.loop-i-init
loop-i-init c =
    let net = the_network c.args.net.now in
    let old = c.args.log.now in
    let sifted = open_on net old c.sift.new.log c.sift.ensures.stays c.requires.ready in
    let next = c.next_place-i.ensures.next net 0 (omega arith) c.sift.ensures.ahead in
    record {
      taken = waits_to net old c.next_place-i.new.log c.args.j 0 c.next_place-i.result next.low next.spent
          (past net old c.sift.new.log c.next_place-i.new.log next.stays 0 c.args.j
          (past net old old c.sift.new.log c.sift.ensures.stays 0 c.args.j (idle net old _ c.requires.ready refl)));
      ready = open_on net c.sift.new.log c.next_place-i.new.log next.stays sifted;
      upto = next.high;
      counted = record { low = omega arith; most = omega arith };
      bound = had_on c.sift.new.log c.next_place-i.new.log c.args.j (the_bound c.bound.result) next.stays
          (had_on old c.sift.new.log c.args.j (the_bound c.bound.result) c.sift.ensures.stays
          (has_bound old.entries c.args.j c.bound.result c.bound.ensures.bound));
      ahead = next.ahead;
    }

pub next_place-i-requires : goal.next_place-i-requires
next_place-i-requires c = record { place = inside_past c.args.log.now c.sift.new.log c.args.j c.sift.ensures.stays c.requires.place }

pub next_place-i-requires-in-Open : goal.next_place-i-requires-in-Open
next_place-i-requires-in-Open c = record {
  place = omega (arith, c.requires.place, c.loop-i.invariant.taken.longer.longer, c.in_ok-try_both.ensures.outcome.taken.longer.longer);
}

pub loop-i-smaller : goal.loop-i-smaller
loop-i-smaller c =
    let net = the_network c.args.net.now in
    let was = c.loop-i.invariant in
    let both = wait_at c.loop-i.i c.args.j ∷ (wait_at c.args.j c.loop-i.i ∷ []) in
    let more = taken_on net c.loop-i.log c.try_both.new.log both _ c.in_ok-try_both.ensures.outcome.taken in
    let inside : c.args.j < length c.loop-i.log.entries = omega (arith, c.requires.place, was.taken.longer.longer) in
    let ahead = ahead_on net c.loop-i.log c.try_both.new.log c.args.j (c.loop-i.i + 1) more c.in_ok-try_both.ensures.agenda inside (was.ahead c.loop-i-test.true) in
    let next = c.next_place-i-in-Open.ensures.next net (c.loop-i.i + 1) (omega (arith, c.loop-i-test.true)) ahead in
    omega (arith, next.low, c.loop-i-test.true)

pub try_both-requires-clause-first : goal.try_both-requires-clause-first
try_both-requires-clause-first c = omega (arith, c.requires.place, c.loop-i.invariant.taken.longer.longer, c.loop-i-test.true)

pub try_both-requires-clause-place : goal.try_both-requires-clause-place
try_both-requires-clause-place c = omega (arith, c.requires.place, c.loop-i.invariant.taken.longer.longer)

pub loop-i-preserved : goal.loop-i-preserved
loop-i-preserved c =
    let net = the_network c.args.net.now in
    let was = c.loop-i.invariant in
    let both = wait_at c.loop-i.i c.args.j ∷ (wait_at c.args.j c.loop-i.i ∷ []) in
    let more = taken_on net c.loop-i.log c.try_both.new.log both _ c.in_ok-try_both.ensures.outcome.taken in
    let inside : c.args.j < length c.loop-i.log.entries = omega (arith, c.requires.place, was.taken.longer.longer) in
    let ahead = ahead_on net c.loop-i.log c.try_both.new.log c.args.j (c.loop-i.i + 1) more c.in_ok-try_both.ensures.agenda inside (was.ahead c.loop-i-test.true) in
    let next = c.next_place-i-in-Open.ensures.next net (c.loop-i.i + 1) (omega (arith, c.loop-i-test.true)) ahead in
    record {
      taken = waits_to net c.args.log.now c.next_place-i-in-Open.new.log c.args.j (c.loop-i.i + 1) c.next_place-i-in-Open.result next.low next.spent
          (past net c.args.log.now c.try_both.new.log c.next_place-i-in-Open.new.log next.stays (c.loop-i.i + 1) c.args.j
          (go_on net c.args.log.now c.loop-i.log c.try_both.new.log (waits_below c.loop-i.i c.args.j) both was.taken
          (waits_below (c.loop-i.i + 1) c.args.j) false (sym (waits_next c.loop-i.i c.args.j))
          (step_open _ _ _ _ _ c.in-Open.is c.in_ok-try_both.ensures.outcome)));
      ready = open_on net c.try_both.new.log c.next_place-i-in-Open.new.log next.stays (c.in_ok-try_both.ensures.outcome.ready c.in-Open.is);
      upto = next.high;
      bound = had_on c.try_both.new.log c.next_place-i-in-Open.new.log c.args.j (the_bound c.bound.result) next.stays
          (bound_on c.loop-i.log.entries c.try_both.new.log.entries c.args.j (the_bound c.bound.result) more
          (omega (arith, size_is c.loop-i.log, inside)) was.bound);
      ahead = next.ahead;
      counted = record {
        low = omega (arith, was.counted.low, c.in_ok-try_both.ensures.counted.low);
        most = pairs_step net c.args.log.now c.loop-i.log c.args.j c.loop-i.i c.next_place-i-in-Open.result (waits_below c.loop-i.i c.args.j) c.args.tries.now.count
            c.loop-i.tries.count c.try_both.new.tries.count was.taken c.requires.place
            (omega (arith, c.requires.place, c.loop-i-test.true)) was.counted.most c.in_ok-try_both.ensures.counted.most next.low;
      };
    }

pub returns-in-Refuted-clause-outcome : goal.returns-in-Refuted-clause-outcome
returns-in-Refuted-clause-outcome c =
    let w = waits_whole (c.args.j + 1) c.loop-i.i c.args.j (omega (arith, c.loop-i-test.true)) in
    refuted_step _ _ _ _
    (go_true (the_network c.args.net.now) c.args.log.now c.loop-i.log c.try_both.new.log (waits_below c.loop-i.i c.args.j)
    (wait_at c.loop-i.i c.args.j ∷ (wait_at c.args.j c.loop-i.i ∷ [])) c.loop-i.invariant.taken
    (waits_below (c.args.j + 1) c.args.j) w.0 (is_refutation c.in_ok-try_both.field-0) w.1 c.in_ok-try_both.ensures.outcome.taken
    (ap is_refutation c.in-Refuted.is))

pub returns-in_err-try_both-clause-outcome : goal.returns-in_err-try_both-clause-outcome
returns-in_err-try_both-clause-outcome c = record {
  taken = search rules;
  cut = λ is.
      let w = waits_whole (c.args.j + 1) c.loop-i.i c.args.j (omega (arith, c.loop-i-test.true)) in
      go_cut (the_network c.args.net.now) c.args.log.now c.loop-i.log c.try_both.new.log (waits_below c.loop-i.i c.args.j)
      (wait_at c.loop-i.i c.args.j ∷ (wait_at c.args.j c.loop-i.i ∷ [])) c.loop-i.invariant.taken
      (waits_below (c.args.j + 1) c.args.j) w.0 w.1 (c.in_err-try_both.ensures.outcome.cut refl);
  ready = search rules;
}

pub returns-clause-outcome : goal.returns-clause-outcome
returns-clause-outcome c =
    let done : c.loop-i.i ≡ c.args.j + 1 = omega (arith, c.loop-i.invariant.upto, c.loop-i-test.false) in
    open_step _ _ _ _
    (subst (λ (n : ℕ). HasBecome (the_network c.args.net.now) c.args.log.now c.loop-i.log (tried (the_network c.args.net.now) (the_entries c.args.log.now.entries) (waits_below n c.args.j)) false)
    done c.loop-i.invariant.taken)
    c.loop-i.invariant.ready

pub returns-in-Refuted-clause-counted : goal.returns-in-Refuted-clause-counted
returns-in-Refuted-clause-counted c = record {
  low = omega (arith, c.loop-i.invariant.counted.low, c.in_ok-try_both.ensures.counted.low);
  most = pairs_step (the_network c.args.net.now) c.args.log.now c.loop-i.log c.args.j c.loop-i.i (suc c.args.j) (waits_below c.loop-i.i c.args.j) c.args.tries.now.count c.loop-i.tries.count c.try_both.new.tries.count c.loop-i.invariant.taken c.requires.place
      (omega (arith, c.requires.place, c.loop-i-test.true)) c.loop-i.invariant.counted.most c.in_ok-try_both.ensures.counted.most (omega (arith, c.loop-i-test.true));
}

pub returns-in_err-try_both-clause-counted : goal.returns-in_err-try_both-clause-counted
returns-in_err-try_both-clause-counted c = record {
  low = omega (arith, c.loop-i.invariant.counted.low, c.in_err-try_both.ensures.counted.low);
  most = pairs_step (the_network c.args.net.now) c.args.log.now c.loop-i.log c.args.j c.loop-i.i (suc c.args.j) (waits_below c.loop-i.i c.args.j) c.args.tries.now.count c.loop-i.tries.count c.try_both.new.tries.count c.loop-i.invariant.taken c.requires.place
      (omega (arith, c.requires.place, c.loop-i-test.true)) c.loop-i.invariant.counted.most c.in_err-try_both.ensures.counted.most (omega (arith, c.loop-i-test.true));
}

pub returns-clause-counted : goal.returns-clause-counted
returns-clause-counted c = record {
  low = c.loop-i.invariant.counted.low;
  most = omega (arith, c.loop-i.invariant.counted.most, total_upto (concludes_with (the_network c.args.net.now) (the_entries c.args.log.now.entries) c.args.j) c.loop-i.i (suc c.args.j) (omega (arith, c.loop-i.invariant.upto)));
}
