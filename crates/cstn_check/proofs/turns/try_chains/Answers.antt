use Rattle.std.proofs.Common.{rules, ◌+◌, ◌<◌, length, [], ◌∷◌, map, take, false, arith, refl, sym, ap, ◌∙◌, subst}
use Rattle.std.proofs.lemmas.List.{take_all}
use Rattle.cstn_log.proofs.KeptLemmas.{entry_with}
use Rattle.cstn_facts.proofs.Places.{one_there}
use Rattle.cstn_rules.specs.declared.entries.Entry.{Entry}
use Rattle.cstn_net.specs.declared.constraints.Constraint.{Constraint}
use Rattle.std.specs.Prelude.{List}
use Rattle.cstn_net.specs.Read.{the_network, the_constraint}
use Rattle.cstn_rules.specs.Read.{the_entry}
use Rattle.cstn_log.specs.Entries.{the_entries}
use Rattle.cstn_check.specs.Growth.{tried, chains_at}
use Rattle.cstn_check.specs.Growth.Instance.{chain_at}
use Rattle.cstn_check.specs.Turns.{HasBecome}
use Rattle.cstn_check.specs.Steps.{is_refutation}
use Rattle.cstn_check.proofs.ChainSkips.{chains_to}
use Rattle.cstn_check.proofs.Sequences.{open_step, refuted_step, step_open, go_on, go_true, go_cut, chains_next, chains_whole}
use Rattle.cstn_check.proofs.SpentLemmas.{spent_after, count_step, count_upto, count_whole}
use Rattle.cstn_check.proofs.TurnLemmas.{idle}
use Rattle.cstn_check.proofs.turns.try_chains.Goals as goal
use Rattle.cstn_log.proofs.StepLemmas.{entry_read}

pub loop-place-init : goal.loop-place-init
loop-place-init c =
    let e : Entry = record { bound = c.bound.result; why = c.bound.ensures.bound.entry.why } in
    let is = entry_with c.args.log.now.entries c.args.j c.bound.result c.bound.ensures.bound in
    record {
      taken = chains_to (the_network c.args.net.now) c.args.log.now c.args.log.now c.args.net.now.constraints c.args.j 0 c.first_ending-place.result
          (the_entry e) (omega arith) c.first_ending-place.ensures.upto (entry_read c.args.log.now.entries c.args.j e is)
          (λ k low high inside same. c.first_ending-place.ensures.none k high inside same)
          (idle (the_network c.args.net.now) c.args.log.now _ c.requires.ready refl);
      ready = c.requires.ready;
      upto = c.first_ending-place.ensures.upto;
      here = λ f there h. c.first_ending-place.ensures.here h
          ∙ ap (λ (y : Entry). y.bound.node.0) (one_there c.args.log.now.entries c.args.j e f is there);
      counted = record { low = omega arith; most = omega arith };
      most_fresh = λ low. omega arith;
      spent = c.requires.spent;
    }

pub try_fresh-requires-clause-spent : goal.try_fresh-requires-clause-spent
try_fresh-requires-clause-spent c = c.loop-place.invariant.spent

pub try_fresh-requires-clause-place : goal.try_fresh-requires-clause-place
try_fresh-requires-clause-place c = omega (arith, c.requires.place, c.loop-place.invariant.taken.longer.longer)

pub returns-in-Refuted-clause-outcome : goal.returns-in-Refuted-clause-outcome
returns-in-Refuted-clause-outcome c =
    refuted_step _ _ _ _
    (go_true (the_network c.args.net.now) c.args.log.now c.loop-place.log c.try_fresh.new.log
    (chains_at (map the_constraint (take c.loop-place.place c.args.net.now.constraints)) c.args.j) (chain_at (the_constraint c.constraint_at.result.now) c.args.j ∷ []) c.loop-place.invariant.taken
    (chains_at (map the_constraint c.args.net.now.constraints) c.args.j) _ (is_refutation c.in_ok-try_fresh.field-0)
    (chains_whole c.args.net.now.constraints c.args.j c.loop-place.place c.constraint_at.result.now c.constraint_at.ensures.at (omega (arith, c.loop-place-test.true, c.constraint_count.ensures)))
    c.in_ok-try_fresh.ensures.outcome.taken (ap is_refutation c.in-Refuted.is))

pub returns-in_err-try_fresh-clause-outcome : goal.returns-in_err-try_fresh-clause-outcome
returns-in_err-try_fresh-clause-outcome c = record {
  taken = search rules;
  cut = λ is. go_cut (the_network c.args.net.now) c.args.log.now c.loop-place.log c.try_fresh.new.log
      (chains_at (map the_constraint (take c.loop-place.place c.args.net.now.constraints)) c.args.j) (chain_at (the_constraint c.constraint_at.result.now) c.args.j ∷ []) c.loop-place.invariant.taken
      (chains_at (map the_constraint c.args.net.now.constraints) c.args.j) _
      (chains_whole c.args.net.now.constraints c.args.j c.loop-place.place c.constraint_at.result.now c.constraint_at.ensures.at (omega (arith, c.loop-place-test.true, c.constraint_count.ensures)))
      (c.in_err-try_fresh.ensures.outcome.cut refl);
  ready = search rules;
}

pub loop-place-preserved : goal.loop-place-preserved
loop-place-preserved c =
    let e : Entry = record { bound = c.bound.result; why = c.bound.ensures.bound.entry.why } in
    let is = entry_with c.args.log.now.entries c.args.j c.bound.result c.bound.ensures.bound in
    let inv = c.loop-place.invariant in
    let inside = c.loop-place-test.true in
    let next = c.next_ending-place.ensures in
    record {
      taken = chains_to (the_network c.args.net.now) c.args.log.now c.try_fresh.new.log c.args.net.now.constraints c.args.j (c.loop-place.place + 1) c.next_ending-place.result
          (the_entry e) next.upto.0 next.upto.1
          (entry_read c.args.log.now.entries c.args.j e is)
          (λ k low high within same. next.none k low high within (same ∙ sym (inv.here e is (omega (arith, inside, c.constraint_count.ensures)))))
          (go_on (the_network c.args.net.now) c.args.log.now c.loop-place.log c.try_fresh.new.log
          (chains_at (map the_constraint (take c.loop-place.place c.args.net.now.constraints)) c.args.j)
          (chain_at (the_constraint c.constraint_at.result.now) c.args.j ∷ []) inv.taken (chains_at (map the_constraint (take (c.loop-place.place + 1) c.args.net.now.constraints)) c.args.j)
          false (chains_next c.args.net.now.constraints c.args.j c.loop-place.place c.constraint_at.result.now c.constraint_at.ensures.at (omega (arith, inside, c.constraint_count.ensures)))
          (step_open _ _ _ _ _ c.in-Open.is c.in_ok-try_fresh.ensures.outcome));
      ready = c.in_ok-try_fresh.ensures.outcome.ready c.in-Open.is;
      upto = next.upto.1;
      here = λ e there h. next.here h ∙ inv.here e there (omega (arith, inside, c.constraint_count.ensures));
      counted = record {
        low = omega (arith, inv.counted.low, c.in_ok-try_fresh.ensures.counted.low);
        most = omega (arith, inv.counted.most, c.in_ok-try_fresh.ensures.counted.most, next.upto.0);
      };
      most_fresh = λ low. omega (arith, inv.most_fresh low, c.in_ok-try_fresh.ensures.most_fresh low, count_step c.args.fresh.now c.args.net.now.constraints c.loop-place.place c.constraint_at.result.now c.constraint_at.ensures.at (omega (arith, inside, c.constraint_count.ensures)), count_upto c.args.fresh.now c.args.net.now.constraints (c.loop-place.place + 1) c.next_ending-place.result next.upto.0);
      spent = spent_after (the_network c.args.net.now) c.loop-place.log c.try_fresh.new.log (chain_at (the_constraint c.constraint_at.result.now) c.args.j ∷ []) _ c.args.fresh.now c.args.old c.in_ok-try_fresh.ensures.outcome.taken (omega (arith, c.requires.front, inv.taken.longer.longer)) inv.spent;
    }

pub returns-clause-outcome : goal.returns-clause-outcome
returns-clause-outcome c =
    open_step _ _ _ _
    (subst (λ (cs : List Constraint). HasBecome (the_network c.args.net.now) c.args.log.now c.loop-place.log (tried (the_network c.args.net.now) (the_entries c.args.log.now.entries) (chains_at (map the_constraint cs) c.args.j)) false)
    (take_all c.loop-place.place c.args.net.now.constraints (omega (arith, c.loop-place-test.false, c.constraint_count.ensures))) c.loop-place.invariant.taken)
    c.loop-place.invariant.ready

pub returns-in-Refuted-clause-most_fresh : goal.returns-in-Refuted-clause-most_fresh
returns-in-Refuted-clause-most_fresh c = λ low.
    let inside : c.loop-place.place < length c.args.net.now.constraints = omega (arith, c.loop-place-test.true, c.constraint_count.ensures) in
    omega (arith, c.loop-place.invariant.most_fresh low, c.in_ok-try_fresh.ensures.most_fresh low, count_step c.args.fresh.now c.args.net.now.constraints c.loop-place.place c.constraint_at.result.now c.constraint_at.ensures.at inside, count_whole c.args.fresh.now c.args.net.now.constraints (c.loop-place.place + 1))

pub returns-in_err-try_fresh-clause-most_fresh : goal.returns-in_err-try_fresh-clause-most_fresh
returns-in_err-try_fresh-clause-most_fresh c = λ low.
    let inside : c.loop-place.place < length c.args.net.now.constraints = omega (arith, c.loop-place-test.true, c.constraint_count.ensures) in
    omega (arith, c.loop-place.invariant.most_fresh low, c.in_err-try_fresh.ensures.most_fresh low, count_step c.args.fresh.now c.args.net.now.constraints c.loop-place.place c.constraint_at.result.now c.constraint_at.ensures.at inside, count_whole c.args.fresh.now c.args.net.now.constraints (c.loop-place.place + 1))

pub returns-clause-most_fresh : goal.returns-clause-most_fresh
returns-clause-most_fresh c = λ low.
    omega (arith, c.loop-place.invariant.most_fresh low, count_whole c.args.fresh.now c.args.net.now.constraints c.loop-place.place)

pub returns-in-Refuted-clause-counted : goal.returns-in-Refuted-clause-counted
returns-in-Refuted-clause-counted c = record {
  low = omega (arith, c.loop-place.invariant.counted.low, c.in_ok-try_fresh.ensures.counted.low);
  most = omega (arith, c.loop-place.invariant.counted.most, c.in_ok-try_fresh.ensures.counted.most, c.loop-place-test.true, c.constraint_count.ensures);
}

pub returns-in_err-try_fresh-clause-counted : goal.returns-in_err-try_fresh-clause-counted
returns-in_err-try_fresh-clause-counted c = record {
  low = omega (arith, c.loop-place.invariant.counted.low, c.in_err-try_fresh.ensures.counted.low);
  most = omega (arith, c.loop-place.invariant.counted.most, c.in_err-try_fresh.ensures.counted.most, c.loop-place-test.true, c.constraint_count.ensures);
}

pub returns-clause-counted : goal.returns-clause-counted
returns-clause-counted c = record {
  low = c.loop-place.invariant.counted.low;
  most = omega (arith, c.loop-place.invariant.counted.most, c.loop-place.invariant.upto);
}
