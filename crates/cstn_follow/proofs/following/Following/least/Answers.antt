use Rattle.std.proofs.Common.{◌≡◌, subst}
use Rattle.std.specs.Prelude.{IfOk}
use Rattle.cstn_lift.specs.Read.{the_labelled}
use Rattle.cstn_history.specs.Read.{the_history}
use Rattle.cstn_follow.specs.Further.{least_text}
use Rattle.cstn_follow.specs.LeastDeadline.{least_of}
use Rattle.cstn_follow.specs.Read.{FollowingParts}
use Rattle.cstn_follow.specs.declared.answers.LeastDeadline.{LeastDeadline}
use Rattle.cstn_follow.proofs.following.Following.least.Goals as goal

pub returns : goal.returns
returns c =
    let a = c.args.self.now in
    let kept = subst (λ (f : FollowingParts). c.in_ok-least.least ≡ least_of (the_labelled f.network) (the_history f.history) f.fresh f.cap)
    c.self.view_is c.in_ok-least.ensures.told in
    record {
      says = subst (λ (l : LeastDeadline). IfOk c.least_line.result (λ text. text.items ≡ least_text a.cap l)) kept c.least_line.ensures.line;
    }
