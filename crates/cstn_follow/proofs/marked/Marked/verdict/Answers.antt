use Rattle.std.proofs.Common.{ap, ◌∙◌}
use Rattle.cstn_follow.specs.Following.{verdict_now}
use Rattle.cstn_follow.specs.MarkedRead.{MarkedParts}
use Rattle.cstn_follow.specs.Read.{the_following}
use Rattle.cstn_follow.proofs.marked.Marked.verdict.Goals as goal

pub returns : goal.returns
returns c = record { verdict = c.verdict.ensures.verdict ∙ ap (λ (t : MarkedParts). verdict_now (the_following t.now)) c.self.view_is }
