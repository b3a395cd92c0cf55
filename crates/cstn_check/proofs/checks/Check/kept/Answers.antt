use Rattle.std.proofs.Common.{ap}
use Rattle.cstn_check.specs.Checks.{CheckParts}
use Rattle.cstn_check.proofs.Keeping.{front_seen, none_seen, started_seen, full_seen}
use Rattle.cstn_check.proofs.checks.Check.kept.Goals as goal

pub returns-clause-front : goal.returns-clause-front
returns-clause-front c =
    front_seen c.self.inside.net c.self.inside.log c.self.inside.verdict c.args.self.now (ap (λ (s : CheckParts). s.net) c.self.view_is)
    c.network_is_well_formed.ensures c.self.invariant.answered

pub returns-clause-empty : goal.returns-clause-empty
returns-clause-empty c =
    none_seen c.self.inside.net c.self.inside.log c.self.inside.verdict c.args.self.now (ap (λ (s : CheckParts). s.net) c.self.view_is)
    (ap (λ (s : CheckParts). s.cap) c.self.view_is) c.network_is_well_formed.ensures c.self.invariant.answered

pub returns-clause-started : goal.returns-clause-started
returns-clause-started c =
    started_seen c.self.inside.net c.self.inside.log c.self.inside.verdict c.args.self.now (ap (λ (s : CheckParts). s.net) c.self.view_is)
    (ap (λ (s : CheckParts). s.cap) c.self.view_is) (ap (λ (s : CheckParts). s.verdict) c.self.view_is) c.self.invariant.answered

pub returns-clause-full : goal.returns-clause-full
returns-clause-full c =
    full_seen c.self.inside.net c.self.inside.log c.self.inside.verdict c.args.self.now (ap (λ (s : CheckParts). s.net) c.self.view_is)
    (ap (λ (s : CheckParts). s.cap) c.self.view_is) (ap (λ (s : CheckParts). s.verdict) c.self.view_is) c.self.invariant.answered
