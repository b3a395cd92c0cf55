use Rattle.std.proofs.Common.{◌≡◌, sym, subst, ap, ◌∙◌}
use Rattle.std.proofs.lemmas.Result.{IfOk-weaker}
use Rattle.cstn_lift.specs.Read.{the_labelled}
use Rattle.cstn_history.specs.Read.{HistoryParts, the_history, refusal_of}
use Rattle.cstn_follow.specs.Executions.{ExecutionParts}
use Rattle.cstn_follow.specs.Following.{verdict_left}
use Rattle.cstn_follow.specs.Lateness.{said_late}
use Rattle.cstn_follow.specs.Pauses.{said_of}
use Rattle.cstn_follow.proofs.LastExpected.{late_said_by}
use Rattle.cstn_follow.proofs.executions.Execution.said_late.Goals as goal

pub returns-in-Ok : goal.returns-in-Ok
returns-in-Ok c =
    let w = c.self.inside in
    let p = c.args.p.index in
    let t = c.args.moment in
    let cap = c.args.cap.entries in
    let later = the_history c.expect.new.self in
    let none = sym c.expect.ensures.refused ∙ ap refusal_of c.in-Ok.is in
    let recorded = rw c.in-Ok.is at c.expect.ensures.recorded in
    let here = late_said_by (the_labelled w.network) (the_history c.in_ok-later.later) later w.fresh cap p t none recorded in
    let same = subst (λ (h : HistoryParts). said_of (verdict_left (the_labelled w.network) later w.fresh cap) ≡ said_late (the_labelled w.network) (the_history h) w.fresh cap p t)
    c.in_ok-later.ensures.equal here in
    let said = subst (λ (e : ExecutionParts). said_of (verdict_left (the_labelled e.network) later e.fresh cap) ≡ said_late (the_labelled e.network) (the_history e.history) e.fresh cap p t)
    c.self.view_is same in
    record { said = IfOk-weaker c.said_after.result _ _ (λ o is. is ∙ said) c.said_after.ensures.said }
