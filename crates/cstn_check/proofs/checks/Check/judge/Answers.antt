use Rattle.std.proofs.Common.{ap}
use Rattle.cstn_net.specs.Read.{the_network}
use Rattle.cstn_log.specs.Entries.{the_entries}
use Rattle.cstn_check.specs.Checks.{CheckParts}
use Rattle.cstn_check.proofs.VerdictLemmas.{held, seen_so}
use Rattle.cstn_check.proofs.checks.Check.judge.Goals as goal

pub returns-in-Some-clause-verdict : goal.returns-in-Some-clause-verdict
returns-in-Some-clause-verdict c = (
  the_entries c.self.inside.log.entries,
  seen_so c.self.inside.net c.self.inside.log.cap (the_entries c.self.inside.log.entries) c.in-Some.verdict c.args.self.now
      (ap (λ (s : CheckParts). s.net) c.self.view_is) (ap (λ (s : CheckParts). s.cap) c.self.view_is)
      (held (the_network c.self.inside.net) c.self.inside.log c.self.inside.verdict c.in-Some.verdict c.in-Some.is c.self.invariant.answered),
)

pub returns-clause-verdict : goal.returns-clause-verdict
returns-clause-verdict c = (
  the_entries c.answer-verdict.new.log.entries,
  seen_so c.self.inside.net c.self.inside.log.cap (the_entries c.answer-verdict.new.log.entries) c.answer-verdict.result c.args.self.now
      (ap (λ (s : CheckParts). s.net) c.self.view_is) (ap (λ (s : CheckParts). s.cap) c.self.view_is)
      c.answer-verdict.ensures.verdict,
)
