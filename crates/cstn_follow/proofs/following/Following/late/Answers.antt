use Rattle.std.proofs.Common.{◌≡◌, subst}
use Rattle.std.specs.Prelude.{IfOk}
use Rattle.cstn_lift.specs.Read.{the_labelled}
use Rattle.cstn_check.specs.declared.verdicts.Verdict.{Verdict}
use Rattle.cstn_history.specs.Read.{the_history}
use Rattle.cstn_follow.specs.Further.{late_text}
use Rattle.cstn_follow.specs.Lateness.{Late, the_late, late_of}
use Rattle.cstn_follow.specs.Read.{FollowingParts}
use Rattle.cstn_follow.proofs.AskedLines.{verdict_same}
use Rattle.cstn_follow.proofs.following.Following.late.Goals as goal

pub returns : goal.returns
returns c =
    let a = c.args.self.now in
    let p = c.args.p.index in
    let kept = subst (λ (f : FollowingParts). the_late c.in_ok-late.late ≡ late_of (the_labelled f.network) (the_history f.history) f.fresh f.cap p f.verdict)
    c.self.view_is c.in_ok-late.ensures.told in
    let is = subst (λ (v : Verdict). the_late c.in_ok-late.late ≡ late_of (the_labelled a.network) (the_history a.history) a.fresh a.cap p v)
    (verdict_same a c.is_in_order.ensures.following) kept in
    record {
      says = subst (λ (l : Late). IfOk c.late_line.result (λ text. text.items ≡ late_text a.names a.cap p l)) is c.late_line.ensures.line;
    }
