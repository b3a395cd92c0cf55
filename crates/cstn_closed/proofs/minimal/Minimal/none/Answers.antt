use Rattle.std.proofs.Common.{[], ◌∷◌, length, arith, ap}
use Rattle.std.proofs.lemmas.List.{length-append}
use Rattle.cstn_closed.proofs.CoverLemmas.{nothing_more}
use Rattle.cstn_closed.proofs.minimal.Minimal.none.Goals as goal

pub loop-preserved : goal.loop-preserved
loop-preserved c = record {
  upto = omega (arith, c.loop-test.true);
  width = omega (arith, ap length c.in_ok-push.ensures.items, length-append c.loop.lists.items (c.new.result ∷ []), c.loop.invariant.width);
  none = nothing_more c.loop.lists.items _ c.new.result c.new.ensures.items c.in_ok-push.ensures.items c.loop.invariant.none;
}
