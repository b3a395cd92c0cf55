use Rattle.std.proofs.Common.{◌≡◌, ◌+◌, suc, Some, arith, ◌∙◌}
use Rattle.std.specs.Prelude.{slice_get}
use Rattle.cstn_log.proofs.KeptLemmas.{one_read}
use Rattle.cstn_log.proofs.ChoiceLemmas.{choosing_marked, choosing_unmarked, choosing_none, choosing_done}
use Rattle.cstn_log.proofs.list.choose.Goals.{then-marks-k, else-marks-k}
use Rattle.cstn_log.proofs.list.choose.Goals as goal

pub loop-k-preserved : goal.loop-k-preserved
loop-k-preserved g c =
    let was = c.loop-k.invariant in
    let marks = c.args.marks.now in
    let k = c.loop-k.k in
    let next : k + 1 ≡ suc k = omega arith in
    elim c.if-marks-k.branch [
      | then-marks-k w ↦
          let x = w.index.result.now in
          let there : slice_get c.loop-k.values.items k ≡ Some x = one_read c.loop-k.values.items k x (omega (arith, was.choosing.size, c.loop-k-test.true, was.end)) w.index.ensures in
          record {
            end = was.end;
            choosing = rw (w.values-is, w.count-is, next) (choosing_marked marks c.args.values.now.items c.loop-k.values.items k c.loop-k.count x was.choosing there w.if-marks-k.true);
            at_most = rw w.count-is (omega (arith, was.at_most));
            room = rw w.values-is was.room;
          }
      | else-marks-k w ↦
          record {
            end = was.end;
            choosing = rw (w.values-is, w.count-is, next) (choosing_unmarked marks c.args.values.now.items c.loop-k.values.items k c.loop-k.count was.choosing w.if-marks-k.false);
            at_most = rw w.count-is (omega (arith, was.at_most));
            room = rw w.values-is was.room;
          }
    ]

pub loop-k-init : goal.loop-k-init
loop-k-init g c = record {
  end = omega (arith, c.len-k-end.ensures, c.args.values.now.ok);
  choosing = choosing_none c.args.marks.now c.args.values.now.items;
  at_most = omega arith;
  room = omega arith;
}

pub returns-clause-chosen : goal.returns-clause-chosen
returns-clause-chosen g c =
    c.truncate.ensures.items ∙ choosing_done c.args.marks.now c.args.values.now.items c.loop-k.values.items c.loop-k.k c.loop-k.count c.loop-k.invariant.choosing (omega (arith, c.loop-k-test.false, c.loop-k.auto.k-end, c.loop-k.invariant.end))
