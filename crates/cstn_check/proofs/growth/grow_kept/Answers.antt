use Rattle.std.proofs.Common.{sym, ◌∙◌, arith}
use Rattle.std.proofs.lemmas.Bool.{false≢true}
use Rattle.cstn_net.specs.Read.{the_network}
use Rattle.cstn_check.proofs.Outcomes.{refuted_itself, open_empty, open_from}
use Rattle.cstn_check.proofs.growth.grow_kept.Goals as goal

pub returns-then-refutes-clause-outcome : goal.returns-then-refutes-clause-outcome
returns-then-refutes-clause-outcome c = record {
  closed = λ other. cc;
  refuted = λ same.
      refuted_itself (the_network c.args.net.now) c.args.log.now _ c.entry-last.result c.network_is_well_formed.ensures c.requires.kept
      (omega (arith, c.len-count.ensures.len, c.len-count.ensures.at_most)) c.entry-last.ensures.entry
      (c.refutes.ensures.refutes.0 c.if-refutes.true);
  full = λ other. cc;
}

pub returns-then-refutes-clause-counted : goal.returns-then-refutes-clause-counted
returns-then-refutes-clause-counted c = record { low = omega arith; most_tried = λ not. omega arith; most_tries = λ not. omega arith }

pub grow_open-requires : goal.grow_open-requires
grow_open-requires c = record {
  ready =
      open_empty (the_network c.args.net.now) c.args.log.now c.requires.growable c.requires.kept c.len-count.ensures.largest
      (omega (arith, c.len-count.ensures.len, c.if-count-eq0.true));
  front = c.requires.front;
  spent = c.requires.spent;
}

pub grow_open-requires-2 : goal.grow_open-requires-2
grow_open-requires-2 c = record {
  ready =
      open_from (the_network c.args.net.now) c.args.log.now c.entry-last.result c.requires.growable c.requires.kept
      (omega (arith, c.len-count.ensures.len, c.len-count.ensures.at_most)) c.len-count.ensures.largest
      (rw (← c.len-count.ensures.len) c.entry-last.ensures.entry)
      (λ r. false≢true (sym c.if-refutes.false ∙ c.refutes.ensures.refutes.1 r));
  front = c.requires.front;
  spent = c.requires.spent;
}
