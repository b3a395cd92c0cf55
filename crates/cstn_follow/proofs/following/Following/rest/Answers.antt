use Rattle.std.proofs.Common.{sym, ap, ◌∙◌}
use Rattle.cstn_lift.specs.Labelled.{Labelled}
use Rattle.cstn_lift.specs.Read.{the_labelled}
use Rattle.cstn_follow.specs.Following.{in_full, saves, left_now, names_left}
use Rattle.cstn_follow.specs.Read.{FollowingParts, the_following}
use Rattle.cstn_follow.proofs.following.Following.rest.Goals as goal

pub returns : goal.returns
returns c =
    let s = the_following c.args.self.now in
    let left = c.in_ok-network.ensures.rest ∙ ap (λ (v : FollowingParts). left_now (the_following v)) c.self.view_is in
    record {
      heard = ap (λ (m : Labelled). saves in_full m (names_left s) s) (sym left)
          ∙ ap (λ names. saves in_full (the_labelled c.in_ok-network.network) names s) (sym c.in_ok-names.ensures.names);
    }
