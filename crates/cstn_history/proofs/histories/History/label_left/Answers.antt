use Rattle.std.proofs.Common.{arith, ◌∙◌}
use Rattle.cstn_label.specs.Read.{marks}
use Rattle.cstn_history.specs.Read.{the_history}
use Rattle.cstn_history.proofs.Told.{turn_left, elsewhere, left_end}
use Rattle.cstn_history.proofs.histories.History.label_left.Goals as goal

pub loop-p-preserved : goal.loop-p-preserved
loop-p-preserved c =
    let h = the_history c.args.self.now in
    let loop = c.loop-p.invariant in
    let a = marks c.args.label in
    let b = marks c.loop-p.left in
    let d = marks c.mark_left-left.result in
    let p = c.in-Some.p.index in
    let range = c.in-Some.p.in_range in
    let low = c.in-Some.ensures.from in
    record {
      range = omega arith;
      before = turn_left h a b d c.loop-p.from p c.mark_left-left.ensures low loop.before loop.ahead c.in-Some.ensures.least;
      ahead = λ q past. elsewhere h a b d c.loop-p.from p c.mark_left-left.ensures q (λ same. omega arith) ∙ loop.ahead q (omega arith);
    }

pub returns : goal.returns
returns c =
    let loop = c.loop-p.invariant in
    record {
      left = left_end (the_history c.args.self.now) (marks c.args.label) (marks c.loop-p.left) c.loop-p.from loop.before loop.ahead c.in_default.ensures.none;
    }
