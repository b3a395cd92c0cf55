use Rattle.cstn_save.proofs.DocumentLemmas.{edges_more}
use Rattle.cstn_save.proofs.document.push_edges.Goals as goal

pub loop-c-preserved : goal.loop-c-preserved
loop-c-preserved c =
    edges_more c.args.names.now c.constraints-c-items.result.now c.loop-c.c-index c.c-item.result c.args.text.now.items c.loop-c.text.items _
    c.loop-c-test.true c.c-item.is c.loop-c.invariant c.in_ok-push_edge.ensures
