use Rattle.cstn_tree.specs.declared.starts.End.TheVariants.{From, To}
use Rattle.cstn_tree.specs.Good.{is_met_so_far}
use Rattle.cstn_tree.specs.Branches.{the_branch}
use Rattle.cstn_tree.specs.Starts.{AllPass}
use Rattle.cstn_tree.proofs.StartLemmas.{both_ends}
use Rattle.cstn_tree.proofs.branches.Branch.meets_both.Goals as goal

pub returns-then-not-meets_at-clause-broken : goal.returns-then-not-meets_at-clause-broken
returns-then-not-meets_at-clause-broken c = λ h. (From, c.meets_at.ensures.broken c.if-not-meets_at.true)

pub returns-clause-kept : goal.returns-clause-kept
returns-clause-kept c = λ h.
    let test = is_met_so_far (the_branch c.args.self.now).placed (the_branch c.args.self.now).asked in
    both_ends (λ end. AllPass test end c.args.net.now.constraints c.args.x.0) (c.meets_at.ensures.kept c.if-not-meets_at.false) (c.meets_at-2.ensures.kept h)

pub returns-clause-broken : goal.returns-clause-broken
returns-clause-broken c = λ h. (To, c.meets_at-2.ensures.broken h)
