use Rattle.std.proofs.Common.{◌≡◌, false, subst}
use Rattle.std.specs.Prelude.{IfSome}
use Rattle.cstn_lines.specs.FollowLines.{the_follow}
use Rattle.cstn_follow.specs.Asking.{of_line}
use Rattle.cstn_follow.specs.Hearing.{on_follow}
use Rattle.cstn_follow.specs.Read.{the_following, the_heard}
use Rattle.cstn_follow.specs.Trials.{of_spoken, is_plan_line}
use Rattle.cstn_follow.proofs.Trying.{question_as_is}
use Rattle.cstn_follow.proofs.following.Following.try_follow.Goals as goal

pub returns-in-Some : goal.returns-in-Some
returns-in-Some c =
    let self = c.args.self.now in
    let line = the_follow c.args.line in
    record {
      heard = question_as_is self (of_spoken (of_line line)) c.in-Some.heard
          (subst (λ o. IfSome o (λ _. is_plan_line line ≡ false)) c.in-Some.is c.in_ok-heard.ensures.asks)
          (subst (λ o. IfSome o (λ h. on_follow (the_following self) line ≡ the_heard self h)) c.in-Some.is c.in_ok-heard.ensures.heard);
    }
