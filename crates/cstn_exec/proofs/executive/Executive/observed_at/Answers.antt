use Rattle.std.proofs.Common.{sym, ◌∙◌}
use Rattle.cstn_net.specs.Read.{the_network}
use Rattle.cstn_exec.proofs.Knowing.{observed_where, observed_nowhere}
use Rattle.cstn_exec.proofs.executive.Executive.observed_at.Goals as goal

pub returns-in-Some-clause-observed : goal.returns-in-Some-clause-observed
returns-in-Some-clause-observed c =
    c.executed_at.ensures ∙ sym (observed_where (the_network c.args.self.now.net) c.is_right.ensures.well_formed.network
    c.args.self.now.run c.in-Some.x.0 c.args.p.index c.in-Some.ensures)

pub returns-in-None-clause-observed : goal.returns-in-None-clause-observed
returns-in-None-clause-observed c =
    sym (observed_nowhere (the_network c.args.self.now.net) c.is_right.ensures.well_formed.network c.args.self.now.run
    c.args.p.index c.in-None.ensures)
