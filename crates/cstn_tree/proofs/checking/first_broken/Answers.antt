use Rattle.cstn_net.specs.Networks.{count}
use Rattle.cstn_net.specs.Read.{the_network}
use Rattle.cstn_outline.proofs.PrintLemmas.{names_inside}
use Rattle.cstn_tree.proofs.checking.first_broken.Goals as goal

pub step-requires-clause-inside : goal.step-requires-clause-inside
step-requires-clause-inside c =
    names_inside (count (the_network c.args.net.now)) c.args.lines.now c.loop-k.k c.index-lines-k.result c.loop-k-test.true c.index-lines-k.is c.requires.among
