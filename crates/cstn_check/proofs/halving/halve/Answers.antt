use Rattle.std.proofs.Common.{arith, sym, ap, ◌∙◌}
use Rattle.cstn_check.specs.Search.{halving}
use Rattle.cstn_check.proofs.Halves.{halving_ends, halving_stops, halving_next, halving_none}
use Rattle.cstn_check.proofs.halving.halve.Goals as goal

pub returns-then-span : goal.returns-then-span
returns-then-span g c =
    let says = g.T.MomentTrial.says c.args.trial.now in
    let stop = c.if-span.true in
    sym (halving_stops says c.loop-turn._turn c.loop-turn.span (halving says 20 c.args.span) c.loop-turn.invariant.left (omega arith))

pub returns-in_default : goal.returns-in_default
returns-in_default g c =
    let says = g.T.MomentTrial.says c.args.trial.now in
    let stop = c.if-span.false in
    let turn = c.loop-turn-test.true in
    let said = c.in_ok-said.ensures ∙ ap says c.middle.ensures.middle in
    sym (halving_none says c.loop-turn._turn c.loop-turn.span (halving says 20 c.args.span) c.loop-turn.invariant.left (omega arith) (omega arith)
    c.in_ok-said.said said (sym c.in_default.ensures.halved))

pub loop-turn-preserved : goal.loop-turn-preserved
loop-turn-preserved g c =
    let says = g.T.MomentTrial.says c.args.trial.now in
    let stop = c.if-span.false in
    let turn = c.loop-turn-test.true in
    let said = c.in_ok-said.ensures ∙ ap says c.middle.ensures.middle in
    record {
      range = c.in-Some.ensures.range;
      left = halving_next says c.loop-turn._turn c.loop-turn.span (halving says 20 c.args.span) c.loop-turn.invariant.left (omega arith) (omega arith) c.in-Some.half
          c.in_ok-said.said said (sym c.in-Some.ensures.halved);
    }

pub returns : goal.returns
returns g c =
    let says = g.T.MomentTrial.says c.args.trial.now in
    let stop = c.loop-turn-test.false in
    sym (halving_ends says c.loop-turn._turn c.loop-turn.span (halving says 20 c.args.span) c.loop-turn.invariant.left (omega arith))
