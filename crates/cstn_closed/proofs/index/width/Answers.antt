use Rattle.std.proofs.Common.{◌<◌, ◌≤◌, arith, subst, take}
use Rattle.std.proofs.lemmas.List.Elements.{All-more, All-weaker}
use Rattle.std.proofs.Math.Seq.{take_all}
use Rattle.std.specs.List.{All}
use Rattle.cstn_label.specs.declared.bounds.Bound.{Bound}
use Rattle.cstn_closed.proofs.index.width.Goals as goal

pub loop-b-preserved : goal.loop-b-preserved
loop-b-preserved c =
    let wider : c.loop-b.width ≤ c.max-width.result = grind (arith, c.max-width.ensures) in
    let here : c.b-item.result.node.0 < c.max-width.result = grind (arith, c.max-width.ensures) in
    record {
      small = grind (arith, c.max-width.ensures);
      all = All-more (λ (b : Bound). b.node.0 < c.max-width.result) c.args.bounds.now c.loop-b.b-index c.b-item.result c.loop-b-test.true
          (All-weaker (λ (b : Bound). b.node.0 < c.loop-b.width) (λ (b : Bound). b.node.0 < c.max-width.result) (λ b h. omega arith) (take c.loop-b.b-index c.args.bounds.now) c.loop-b.invariant.all)
          (subst (λ (b : Bound). b.node.0 < c.max-width.result) c.b-item.is here);
    }

pub returns : goal.returns
returns c = record {
  width = subst (All (λ (b : Bound). b.node.0 < c.loop-b.width)) (take_all c.loop-b.b-index c.args.bounds.now c.loop-b-test.false) c.loop-b.invariant.all;
}
