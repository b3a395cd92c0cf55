use Rattle.std.proofs.Common.{arith, sym}
use Rattle.std.proofs.lemmas.Result.{on_ok_weaker}
use Rattle.cstn_label.specs.Read.{the_bound}
use Rattle.cstn_closed.proofs.CoverLemmas.{put_back}
use Rattle.cstn_closed.proofs.minimal.Minimal.put.Goals as goal

pub returns-clause-put : goal.returns-clause-put
returns-clause-put c =
    on_ok_weaker c.put_in.result (put_back c.args.self.now.lists.items c.index.result c.put_in.new.list c.index_mut.result.now (the_bound c.args.b.now)
    (omega (arith, c.requires.inside, c.index.ensures.index)) (sym c.index.ensures.index) c.index_mut.ensures.value) c.put_in.ensures.put
