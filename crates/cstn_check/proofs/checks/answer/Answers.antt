use Rattle.std.proofs.Common.{arith}
use Rattle.cstn_net.specs.Read.{the_network}
use Rattle.cstn_check.proofs.Answering.{has_bases, has_room, start_growable, no_room, verdict_from}
use Rattle.cstn_check.proofs.checks.answer.Goals as goal

pub returns-then-len-eq0-clause-verdict : goal.returns-then-len-eq0-clause-verdict
returns-then-len-eq0-clause-verdict c =
    no_room (the_network c.args.net.now) c.args.log.now c.network_is_well_formed.ensures c.requires.started
    (omega (arith, c.if-len-eq0.true, c.len.ensures.len))

pub grow-grown-requires : goal.grow-grown-requires
grow-grown-requires c =
    record {
      growable = start_growable (the_network c.args.net.now) c.args.log.now c.network_is_well_formed.ensures c.requires.started
          (λ none. omega (arith, none, c.if-len-eq0.false, c.len.ensures.len));
    }

pub returns-clause-verdict : goal.returns-clause-verdict
returns-clause-verdict c =
    verdict_from (the_network c.args.net.now) c.args.log.now c.grow-grown.new.log c.grow-grown.result c.verdict_of.result
    c.len-load.result c.network_is_well_formed.ensures
    (has_bases (the_network c.args.net.now) c.args.log.now c.network_is_well_formed.ensures c.requires.started
    (λ none. omega (arith, none, c.if-len-eq0.false, c.len.ensures.len)))
    c.grow-grown.ensures.grown.full c.grow-grown.ensures.grown.cut c.grow-grown.ensures.grown.whole c.grow-grown.ensures.grown.refuted
    c.len-load.ensures.len (omega (arith, c.len-load.ensures.at_most, c.grow-grown.ensures.grown.cap))
    (has_room (the_network c.args.net.now) c.args.log.now c.network_is_well_formed.ensures c.requires.started
    (λ none. omega (arith, none, c.if-len-eq0.false, c.len.ensures.len)))
    c.verdict_of.ensures.closed c.verdict_of.ensures.refuted c.verdict_of.ensures.full
