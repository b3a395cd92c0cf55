use Rattle.std.proofs.Common.{◌+◌, length, true, false, arith, refl, ap}
use Rattle.cstn_net.specs.Read.{the_network, the_constraint}
use Rattle.cstn_check.specs.Growth.{turn}
use Rattle.cstn_check.specs.Spent.{fresh_count}
use Rattle.cstn_check.proofs.CostLemmas.{costs_step, costs_all}
use Rattle.cstn_check.proofs.SpentLemmas.{spent_after}
use Rattle.cstn_check.proofs.Growing.{turn_on, end_closed, end_refuted, end_cut}
use Rattle.std.proofs.lemmas.List.{length-map}
use Rattle.cstn_log.specs.Entries.{the_entries}
use Rattle.cstn_check.proofs.Lists.{extends_itself}
use Rattle.cstn_check.specs.Steps.{is_refutation}
use Rattle.cstn_check.proofs.TryLemmas.{taken_on, size_is, tries_step, tries_all, upto_most}
use Rattle.cstn_check.proofs.growth.grow_open.Goals as goal

pub loop-j-preserved : goal.loop-j-preserved
loop-j-preserved c =
    let inv = c.loop-j.invariant in
    let took = c.in-Ok-Open.ensures in
    record {
      taken = turn_on (the_network c.args.net.now) c.args.log.now c.loop-j.log c.take_turn.new.log c.loop-j.j (is_refutation c.in-Ok-Open.field-0)
          false inv.taken took.outcome.taken (ap is_refutation c.in-Ok-Open.field-0-is);
      ready = took.outcome.ready c.in-Ok-Open.field-0-is;
      tries = omega (arith, inv.tries, took.counted.low);
      turns = omega (arith, took.outcome.taken.longer.longer, c.loop-j-test.true, c.len.ensures.len);
      most = costs_step (length c.args.net.now.constraints) (fresh_count c.args.fresh.now (the_network c.args.net.now).constraints) c.args.old (length c.loop-j.log.entries) (length c.take_turn.new.log.entries) c.loop-j.j c.loop-j.tries.count c.take_turn.new.tries.count
          took.outcome.taken.longer.longer (omega (arith, took.outcome.taken.longer.longer, c.loop-j-test.true, c.len.ensures.len)) took.most_fresh (omega (arith, took.counted.most, upto_most (the_network c.args.net.now) (the_entries c.loop-j.log.entries) c.loop-j.j)) c.args.tries.now.count inv.most;
      concluding = tries_step (the_network c.args.net.now) (length (the_network c.args.net.now).constraints) (the_entries c.loop-j.log.entries) (the_entries c.take_turn.new.log.entries) c.loop-j.j c.args.tries.now.count c.loop-j.tries.count c.take_turn.new.tries.count
          (taken_on (the_network c.args.net.now) c.loop-j.log c.take_turn.new.log (turn (the_network c.args.net.now) c.loop-j.j) _ took.outcome.taken)
          (omega (arith, size_is c.loop-j.log, c.loop-j-test.true, c.len.ensures.len)) inv.concluding
          (omega (arith, took.counted.most, length-map c.args.net.now.constraints the_constraint));
      spent = spent_after (the_network c.args.net.now) c.loop-j.log c.take_turn.new.log (turn (the_network c.args.net.now) c.loop-j.j) _ c.args.fresh.now c.args.old took.outcome.taken (omega (arith, c.requires.front, inv.taken.longer.longer)) inv.spent;
    }

pub take_turn-requires-clause-front : goal.take_turn-requires-clause-front
take_turn-requires-clause-front c = omega (arith, c.requires.front, c.loop-j.invariant.taken.longer.longer)

pub take_turn-requires-clause-spent : goal.take_turn-requires-clause-spent
take_turn-requires-clause-spent c = c.loop-j.invariant.spent

pub returns-in-Ok-Refuted-clause-outcome : goal.returns-in-Ok-Refuted-clause-outcome
returns-in-Ok-Refuted-clause-outcome c = record {
  closed = λ other. cc;
  refuted = λ same.
      end_refuted (the_network c.args.net.now) c.args.log.now c.network_is_well_formed.ensures c.requires.ready c.take_turn.new.log
      (c.loop-j.j + 1)
      (turn_on (the_network c.args.net.now) c.args.log.now c.loop-j.log c.take_turn.new.log c.loop-j.j (is_refutation c.in-Ok-Refuted.field-0) true
      c.loop-j.invariant.taken c.in-Ok-Refuted.ensures.outcome.taken (ap is_refutation c.in-Ok-Refuted.field-0-is));
  full = λ other. cc;
}

pub returns-in-Err-clause-outcome : goal.returns-in-Err-clause-outcome
returns-in-Err-clause-outcome c = record {
  closed = λ other. cc;
  refuted = λ other. cc;
  full = λ same.
      end_cut (the_network c.args.net.now) c.args.log.now c.network_is_well_formed.ensures c.requires.ready c.loop-j.log c.take_turn.new.log
      c.loop-j.j c.loop-j.invariant.taken (c.in-Err.ensures.outcome.cut refl);
}

pub returns-clause-outcome : goal.returns-clause-outcome
returns-clause-outcome c = record {
  closed = λ same.
      end_closed (the_network c.args.net.now) c.args.log.now c.network_is_well_formed.ensures c.requires.ready c.loop-j.log c.loop-j.j
      c.loop-j.invariant.taken (omega (arith, c.loop-j-test.false, c.len.ensures.len));
  refuted = λ other. cc;
  full = λ other. cc;
}

pub returns-in-Ok-Refuted-clause-counted : goal.returns-in-Ok-Refuted-clause-counted
returns-in-Ok-Refuted-clause-counted c = record {
  low = omega (arith, c.loop-j.invariant.tries, c.in-Ok-Refuted.ensures.counted.low);
  most_tried = λ not.
      let inv = c.loop-j.invariant in
      let took = c.in-Ok-Refuted.ensures in
      let more = taken_on (the_network c.args.net.now) c.loop-j.log c.take_turn.new.log (turn (the_network c.args.net.now) c.loop-j.j) _ took.outcome.taken in
      let step = tries_step (the_network c.args.net.now) (length (the_network c.args.net.now).constraints) (the_entries c.loop-j.log.entries) (the_entries c.take_turn.new.log.entries) c.loop-j.j c.args.tries.now.count c.loop-j.tries.count c.take_turn.new.tries.count
      more
      (omega (arith, size_is c.loop-j.log, c.loop-j-test.true, c.len.ensures.len)) inv.concluding
      (omega (arith, took.counted.most, length-map c.args.net.now.constraints the_constraint)) in
      omega (
        arith,
        step,
        tries_all (the_network c.args.net.now) (length (the_network c.args.net.now).constraints) (the_entries c.loop-j.log.entries) (the_entries c.take_turn.new.log.entries) (c.loop-j.j + 1)
            inv.ready.derivation more (omega (arith, size_is c.loop-j.log, c.loop-j-test.true, c.len.ensures.len)),
      );
  most_tries = λ not.
      let inv = c.loop-j.invariant in
      let took = c.in-Ok-Refuted.ensures in
      let m = length c.args.net.now.constraints in
      let f = fresh_count c.args.fresh.now (the_network c.args.net.now).constraints in
      let step = costs_step m f c.args.old (length c.loop-j.log.entries) (length c.take_turn.new.log.entries) c.loop-j.j c.loop-j.tries.count c.take_turn.new.tries.count
      took.outcome.taken.longer.longer (omega (arith, took.outcome.taken.longer.longer, c.loop-j-test.true, c.len.ensures.len)) took.most_fresh (omega (arith, took.counted.most, upto_most (the_network c.args.net.now) (the_entries c.loop-j.log.entries) c.loop-j.j)) c.args.tries.now.count inv.most in
      omega (arith, step, costs_all m f c.args.old (length c.take_turn.new.log.entries) (c.loop-j.j + 1) (omega (arith, took.outcome.taken.longer.longer, c.loop-j-test.true, c.len.ensures.len)) (omega (arith, c.requires.front, inv.taken.longer.longer, took.outcome.taken.longer.longer)));
}

pub returns-in-Err-clause-counted : goal.returns-in-Err-clause-counted
returns-in-Err-clause-counted c = record {
  low = omega (arith, c.loop-j.invariant.tries, c.in-Err.ensures.counted.low);
  most_tried = λ not. absurd (not refl);
  most_tries = λ not. absurd (not refl);
}

pub returns-clause-counted : goal.returns-clause-counted
returns-clause-counted c = record {
  low = c.loop-j.invariant.tries;
  most_tried = λ not.
      let inv = c.loop-j.invariant in
      omega (
        arith,
        inv.concluding,
        tries_all (the_network c.args.net.now) (length (the_network c.args.net.now).constraints) (the_entries c.loop-j.log.entries) (the_entries c.loop-j.log.entries) c.loop-j.j
            inv.ready.derivation (extends_itself (the_entries c.loop-j.log.entries)) (omega (arith, size_is c.loop-j.log, inv.turns)),
      );
  most_tries = λ not.
      let inv = c.loop-j.invariant in
      let m = length c.args.net.now.constraints in
      let f = fresh_count c.args.fresh.now (the_network c.args.net.now).constraints in
      omega (arith, inv.most, costs_all m f c.args.old (length c.loop-j.log.entries) c.loop-j.j inv.turns (omega (arith, c.requires.front, inv.taken.longer.longer)));
}
