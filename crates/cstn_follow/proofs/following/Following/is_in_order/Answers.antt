use Rattle.std.proofs.Common.{subst}
use Rattle.cstn_follow.specs.Read.{FollowingParts, IsFollowing}
use Rattle.cstn_follow.proofs.following.Following.is_in_order.Goals as goal

pub returns : goal.returns
returns c = record {
  following = subst (λ (v : FollowingParts). IsFollowing v) c.self.view_is (record { session = c.verdict.ensures.session; names = c.self.invariant });
}
