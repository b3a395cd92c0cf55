use Rattle.std.proofs.Common.{arith, ◌∙◌}
use Rattle.cstn_minset.proofs.RowLemmas.{opened_more}
use Rattle.cstn_minset.proofs.rows.open_all.Goals as goal

pub loop-head-preserved : goal.loop-head-preserved
loop-head-preserved c =
    let before = c.loop-head.invariant in
    let fresh = c.empty.ensures in
    let next = opened_more c.loop-head.links c.insert.new.self c.loop-head.head c.end-end.result c.loop-head.pages.items c.empty.result before.opened before.linked (omega (arith, c.loop-head-test.true, before.size.1, c.requires.heads)) (omega (arith, c.loop-head-test.true, before.size.0, c.requires.heads)) c.insert.ensures.size c.end-end.ensures c.insert.ensures.linked (fresh.head, fresh.empty, fresh.page) in
    record {
      size = (c.insert.ensures.size.0 ∙ before.size.0, c.insert.ensures.size.1 ∙ before.size.1);
      room = c.push_reserved.ensures.capacity ∙ before.room;
      opened = rw c.push_reserved.ensures.items next.0;
      linked = rw c.push_reserved.ensures.items next.1;
    }
