use Rattle.std.proofs.Common.{◌≡◌, false, true, subst}
use Rattle.std.specs.List.{All}
use Rattle.std.proofs.lemmas.List.{take_all}
use Rattle.std.proofs.lemmas.List.Elements.{All-more}
use Rattle.cstn_net.specs.Networks.{IsValue}
use Rattle.cstn_net.proofs.Lowest.{fails_first}
use Rattle.cstn_net.proofs.scans.first_out_of_range.Goals as goal

pub loop-i-preserved : goal.loop-i-preserved
loop-i-preserved c =
    let good = c.is_in_range.ensures.0 c.if-not-is_in_range.false in
    All-more (λ d. IsValue d.most) c.args.drafts.now c.loop-i.i c.index-drafts-i.result c.loop-i-test.true c.loop-i.invariant
    (subst (λ d. IsValue d.most) c.index-drafts-i.is good)

pub returns : goal.returns
returns c = subst (All (λ d. IsValue d.most)) (take_all c.loop-i.i c.args.drafts.now c.loop-i-test.false) c.loop-i.invariant

pub returns-then-not-is_in_range : goal.returns-then-not-is_in_range
returns-then-not-is_in_range c =
    fails_first (λ d. IsValue d.most) c.args.drafts.now c.loop-i.i c.index-drafts-i.result c.loop-i-test.true c.index-drafts-i.is
    (λ value. let no : false ≡ true = c.if-not-is_in_range.ensures.1 value in cc) c.loop-i.invariant
