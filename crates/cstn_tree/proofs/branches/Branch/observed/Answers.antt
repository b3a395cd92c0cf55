use Rattle.std.proofs.Common.{sym, ◌∙◌}
use Rattle.cstn_net.specs.Read.{the_network}
use Rattle.cstn_tree.specs.Branches.{the_branch}
use Rattle.cstn_tree.proofs.BranchLemmas.{observed_by, observed_by_none}
use Rattle.cstn_tree.proofs.branches.Branch.observed.Goals as goal

pub returns-in-Some-clause-observed : goal.returns-in-Some-clause-observed
returns-in-Some-clause-observed c =
    c.moment.ensures ∙ sym (observed_by (the_network c.args.net.now) c.count.ensures.well_formed.network (the_branch c.args.self.now) _ _ c.in-Some.ensures.observer)

pub returns-in-None-clause-observed : goal.returns-in-None-clause-observed
returns-in-None-clause-observed c =
    sym (observed_by_none (the_network c.args.net.now) c.count.ensures.well_formed.network (the_branch c.args.self.now) _ c.in-None.ensures.observer)
