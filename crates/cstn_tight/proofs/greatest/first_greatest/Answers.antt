use Rattle.std.proofs.Common.{arith, rules}
use Rattle.cstn_tight.proofs.GreatestLemmas.{first_one, first_next}
use Rattle.cstn_tight.proofs.greatest.first_greatest.Goals.{then-entry, else-entry}
use Rattle.cstn_tight.proofs.greatest.first_greatest.Goals as goal

pub loop-k-init : goal.loop-k-init
loop-k-init c = record {
  end = c.len-k-end.ensures.len;
  few = omega (arith, c.len-k-end.ensures.at_most, c.len-k-end.ensures.largest);
  upto = omega (arith, c.len-k-end.ensures.len, c.requires.some);
  inside = omega arith;
  first = first_one c.args.log.now.entries c.requires.some;
}

pub loop-k-preserved : goal.loop-k-preserved
loop-k-preserved c =
    let was = c.loop-k.invariant in
    let next = first_next c.args.log.now.entries c.loop-k.k c.loop-k.place c.entry.result c.entry-in-loop-k.result was.first c.entry.ensures.entry c.entry-in-loop-k.ensures.entry was.inside in
    elim c.if-entry.branch [
      | then-entry w ↦ rw w.place-is (record {
        end = was.end;
        few = was.few;
        upto = omega (arith, c.loop-k-test.true);
        inside = omega arith;
        first = next.0 (search (rules, w.if-entry.true));
      })
      | else-entry w ↦ rw w.place-is (record {
        end = was.end;
        few = was.few;
        upto = omega (arith, c.loop-k-test.true);
        inside = omega (arith, was.inside);
        first = next.1 (search (rules, w.if-entry.false));
      })
    ]
