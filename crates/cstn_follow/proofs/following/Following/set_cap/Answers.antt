use Rattle.std.proofs.Common.{◌≡◌, subst}
use Rattle.cstn_follow.specs.Following.{says}
use Rattle.cstn_follow.specs.Read.{FollowingParts, following_of, the_following}
use Rattle.cstn_follow.specs.Trials.{on_cap}
use Rattle.cstn_follow.proofs.Copying.{capped_said}
use Rattle.cstn_follow.proofs.following.Following.set_cap.Goals as goal

pub returns-clause-says : goal.returns-clause-says
returns-clause-says c =
    let w = c.self.inside in
    let next = c.set_cap.new.self in
    let cap = c.args.cap.entries in
    subst (λ (v : FollowingParts). on_cap (the_following v) cap ≡ says c.verdict_in.result.items (the_following (following_of next w.names w.lines)))
    c.self.view_is (capped_said w.names w.lines cap w.session next c.in_ok-verdict.verdict c.verdict_in.result.items c.in_ok-verdict.ensures.verdict
    c.in_ok-verdict.ensures.capped c.verdict_in.ensures.line)
