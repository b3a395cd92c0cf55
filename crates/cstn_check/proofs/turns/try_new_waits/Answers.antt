use Rattle.cstn_net.specs.Read.{the_network}
use Rattle.cstn_check.proofs.Sequences.{open_step}
use Rattle.cstn_check.proofs.SpentLemmas.{waits_spent}
use Rattle.cstn_check.proofs.turns.try_new_waits.Goals as goal

pub returns-then-j-old-clause-outcome : goal.returns-then-j-old-clause-outcome
returns-then-j-old-clause-outcome c =
    open_step _ _ _ _
    (waits_spent (the_network c.args.net.now) c.args.log.now c.args.fresh.now c.args.old c.args.j c.requires.ready c.requires.spent c.if-j-old.true)
    c.requires.ready
