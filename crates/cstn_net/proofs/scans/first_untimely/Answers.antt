use Rattle.std.proofs.Common.{◌≡◌, false, true, subst}
use Rattle.std.specs.List.{All}
use Rattle.std.proofs.lemmas.List.{take_all}
use Rattle.std.proofs.lemmas.List.Elements.{All-more}
use Rattle.cstn_net.specs.Drafts.{HasReaction}
use Rattle.cstn_net.proofs.Lowest.{fails_first}
use Rattle.cstn_net.proofs.scans.first_untimely.Goals as goal

pub loop-i-preserved : goal.loop-i-preserved
loop-i-preserved c =
    let good = c.is_timely.ensures.0 c.if-not-is_timely.false in
    All-more HasReaction c.args.points.now c.loop-i.i c.index-points-i.result c.loop-i-test.true c.loop-i.invariant
    (subst HasReaction c.index-points-i.is good)

pub returns : goal.returns
returns c = subst (All HasReaction) (take_all c.loop-i.i c.args.points.now c.loop-i-test.false) c.loop-i.invariant

pub returns-then-not-is_timely : goal.returns-then-not-is_timely
returns-then-not-is_timely c =
    fails_first HasReaction c.args.points.now c.loop-i.i c.index-points-i.result c.loop-i-test.true c.index-points-i.is
    (λ timely. let no : false ≡ true = c.if-not-is_timely.ensures.1 timely in cc) c.loop-i.invariant
