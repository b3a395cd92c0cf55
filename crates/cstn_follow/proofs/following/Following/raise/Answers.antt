use Rattle.std.proofs.Common.{◌≡◌, subst}
use Rattle.std.specs.Prelude.{IfOk}
use Rattle.cstn_lift.specs.Read.{the_labelled}
use Rattle.cstn_check.specs.declared.verdicts.Verdict.{Verdict}
use Rattle.cstn_history.specs.Read.{the_history}
use Rattle.cstn_follow.specs.Following.{verdict_now}
use Rattle.cstn_follow.specs.Further.{raise_text}
use Rattle.cstn_follow.specs.Raises.{raise_of}
use Rattle.cstn_follow.specs.Read.{FollowingParts, the_following}
use Rattle.cstn_follow.specs.declared.answers.Raise.{Raise}
use Rattle.cstn_follow.proofs.AskedLines.{verdict_same}
use Rattle.cstn_follow.proofs.following.Following.raise.Goals as goal

pub returns : goal.returns
returns c =
    let a = c.args.self.now in
    let id = c.args.id in
    let kept = subst (λ (f : FollowingParts). c.in_ok-raise.raise ≡ raise_of (the_labelled f.network) (the_history f.history) f.fresh f.cap id f.verdict)
    c.self.view_is c.in_ok-raise.ensures.told in
    let is = subst (λ (v : Verdict). c.in_ok-raise.raise ≡ raise_of (the_labelled a.network) (the_history a.history) a.fresh a.cap id v)
    (verdict_same a c.is_in_order.ensures.following) kept in
    record {
      says = subst (λ (r : Raise). IfOk c.raise_line.result (λ text. text.items ≡ raise_text a.cap (verdict_now (the_following a)) id r)) is c.raise_line.ensures.line;
    }
