use Rattle.std.proofs.Common.{◌≡◌, subst}
use Rattle.std.specs.Prelude.{IfOk}
use Rattle.cstn_lift.specs.Read.{the_labelled}
use Rattle.cstn_check.specs.declared.verdicts.Verdict.{Verdict}
use Rattle.cstn_history.specs.Read.{the_history}
use Rattle.cstn_follow.specs.Following.{verdict_now}
use Rattle.cstn_follow.specs.Further.{pause_text}
use Rattle.cstn_follow.specs.Pauses.{pause_of}
use Rattle.cstn_follow.specs.Read.{FollowingParts, the_following}
use Rattle.cstn_follow.specs.declared.answers.Pause.{Pause}
use Rattle.cstn_follow.proofs.AskedLines.{verdict_same}
use Rattle.cstn_follow.proofs.following.Following.until.Goals as goal

pub returns : goal.returns
returns c =
    let a = c.args.self.now in
    let kept = subst (λ (f : FollowingParts). c.in_ok-pause.pause ≡ pause_of (the_labelled f.network) (the_history f.history) f.fresh f.cap f.verdict) c.self.view_is
    c.in_ok-pause.ensures.told in
    let is = subst (λ (v : Verdict). c.in_ok-pause.pause ≡ pause_of (the_labelled a.network) (the_history a.history) a.fresh a.cap v)
    (verdict_same a c.is_in_order.ensures.following) kept in
    record {
      says = subst (λ (p : Pause). IfOk c.pause_line.result (λ text. text.items ≡ pause_text a.cap (verdict_now (the_following a)) p)) is c.pause_line.ensures.line;
    }
