use Rattle.std.proofs.Common.{ap}
use Rattle.cstn_net.specs.Read.{the_network}
use Rattle.cstn_check.specs.Checks.{CheckParts}
use Rattle.cstn_check.proofs.VerdictLemmas.{full_clause, bounded_clause, no_clause, yes_clause, exactly_yes, exactly_no, seen_good}
use Rattle.cstn_check.proofs.checks.Check.run.Goals as goal

pub returns-clause-full : goal.returns-clause-full
returns-clause-full c =
    full_clause (the_network c.args.self.now.net) c.args.self.now.cap c.judge.ensures.verdict.0 (seen_good c.self.inside.net c.args.self.now (ap (λ (s : CheckParts). s.net) c.self.view_is) c.network_is_well_formed.ensures)
    c.judge.result c.judge.ensures.verdict.1

pub returns-clause-bounded : goal.returns-clause-bounded
returns-clause-bounded c =
    bounded_clause (the_network c.args.self.now.net) c.args.self.now.cap c.judge.ensures.verdict.0 (seen_good c.self.inside.net c.args.self.now (ap (λ (s : CheckParts). s.net) c.self.view_is) c.network_is_well_formed.ensures)
    c.judge.result c.judge.ensures.verdict.1

pub returns-clause-no : goal.returns-clause-no
returns-clause-no c =
    no_clause (the_network c.args.self.now.net) c.args.self.now.cap c.judge.ensures.verdict.0 (seen_good c.self.inside.net c.args.self.now (ap (λ (s : CheckParts). s.net) c.self.view_is) c.network_is_well_formed.ensures)
    c.judge.result c.judge.ensures.verdict.1

pub returns-clause-yes : goal.returns-clause-yes
returns-clause-yes c =
    yes_clause (the_network c.args.self.now.net) c.args.self.now.cap c.judge.ensures.verdict.0 (seen_good c.self.inside.net c.args.self.now (ap (λ (s : CheckParts). s.net) c.self.view_is) c.network_is_well_formed.ensures)
    c.judge.result c.judge.ensures.verdict.1

pub returns-clause-exactly_yes : goal.returns-clause-exactly_yes
returns-clause-exactly_yes c =
    exactly_yes (the_network c.args.self.now.net) c.args.self.now.cap c.judge.ensures.verdict.0 (seen_good c.self.inside.net c.args.self.now (ap (λ (s : CheckParts). s.net) c.self.view_is) c.network_is_well_formed.ensures)
    c.judge.result c.judge.ensures.verdict.1

pub returns-clause-exactly_no : goal.returns-clause-exactly_no
returns-clause-exactly_no c =
    exactly_no (the_network c.args.self.now.net) c.args.self.now.cap c.judge.ensures.verdict.0 (seen_good c.self.inside.net c.args.self.now (ap (λ (s : CheckParts). s.net) c.self.view_is) c.network_is_well_formed.ensures)
    c.judge.result c.judge.ensures.verdict.1
