use Rattle.std.proofs.Common.{ap, ◌∙◌}
use Rattle.cstn_follow.specs.Following.{verdict_now}
use Rattle.cstn_follow.specs.Read.{FollowingParts, following_of, the_following}
use Rattle.cstn_follow.proofs.Edited.{within_is}
use Rattle.cstn_follow.proofs.following.Following.verdict.Goals as goal

pub returns : goal.returns
returns c =
    let w = c.self.inside in
    let s = w.session in
    record {
      verdict = c.verdict.ensures.verdict ∙ within_is (the_following (following_of s w.names w.lines)) s.verdict c.verdict.ensures.session.verdict
          ∙ ap (λ (v : FollowingParts). verdict_now (the_following v)) c.self.view_is;
    }
