use Rattle.std.proofs.lemmas.Result.{on_ok_weaker}
use Rattle.cstn_graphml.proofs.KeptRead.{put_kept}
use Rattle.cstn_graphml.proofs.drawn_graph.put_constraint.Goals as goal

pub returns : goal.returns
returns c = on_ok_weaker c.put.result (put_kept c.args.graph.now c.args.constraint c.put.new.self.list.items) c.put.ensures
