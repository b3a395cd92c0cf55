use Rattle.std.proofs.Common.{arith, sym, ◌∙◌, length-set}
use Rattle.std.proofs.lemmas.Bool.{false≢true}
use Rattle.cstn_log.proofs.AgendaLemmas.{some_inside, none_used, used_on}
use Rattle.cstn_log.proofs.BlockLemmas.{fewer_below}
use Rattle.cstn_log.proofs.agenda.Agenda.clear.Goals as goal

pub index_mut-requires : goal.index_mut-requires
index_mut-requires c =
    let some = c.loop-row.invariant.used.some c.in-Some.row c.in-Some.ensures.here in
    let inside = some_inside c.loop-row.self-inside.blocks.items c.in-Some.row some.0 some.1 in
    omega (arith, inside, c.loop-row.self-inside.blocks.ok.0)

pub loop-row-smaller : goal.loop-row-smaller
loop-row-smaller c =
    fewer_below c.loop-row.self-inside.used c.take_first.new.self c.in-Some.row c.in-Some.ensures.here c.in-Some.ensures.gone c.in-Some.ensures.others 4096 c.in-Some.ensures.small

pub loop-row-preserved : goal.loop-row-preserved
loop-row-preserved c =
    let items = c.loop-row.self-inside.blocks.items in
    let row = c.in-Some.row in
    let was = c.loop-row.invariant in
    let some = was.used.some row c.in-Some.ensures.here in
    record {
      used = used_on items row c.empty.result (some_inside items row some.0 some.1) c.loop-row.self-inside.used c.take_first.new.self was.used c.in-Some.ensures.others
          (λ on. absurd (false≢true (sym c.in-Some.ensures.gone ∙ on))) (λ k off. c.empty.ensures.empty k);
      size = length-set items row c.empty.result ∙ was.size;
    }

pub returns-clause-none : goal.returns-clause-none
returns-clause-none c = none_used c.loop-row.self-inside.used c.loop-row.self-inside.blocks.items c.loop-row.invariant.used c.in_default.ensures.none
