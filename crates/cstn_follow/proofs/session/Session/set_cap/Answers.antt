use Rattle.std.proofs.Common.{◌≡◌, sym, subst, ◌∙◌}
use Rattle.cstn_lift.specs.Lowered.{lowered}
use Rattle.cstn_check.specs.Decisions.{verdict}
use Rattle.cstn_follow.specs.Executions.{execution_left}
use Rattle.cstn_follow.specs.Sessions.{SessionParts, execution_of}
use Rattle.cstn_follow.proofs.Found.{finding_verdict, found_right}
use Rattle.cstn_follow.proofs.session.Session.set_cap.Goals as goal

pub returns-clause-verdict : goal.returns-clause-verdict
returns-clause-verdict c =
    let w = c.self.inside in
    let cap = c.args.cap.entries in
    subst (λ (s : SessionParts). c.verdict-verdict.result ≡ verdict cap (lowered (execution_left (execution_of s)))) c.self.view_is
    (c.verdict-verdict.ensures ∙ sym (finding_verdict cap (lowered (execution_left w.execution)) c.in-Ok.finding c.in-Ok.ensures.finding))

pub returns-clause-right : goal.returns-clause-right
returns-clause-right c =
    let w = c.self.inside in
    found_right w.execution c.args.cap.entries w.edits c.in-Ok.finding c.verdict-verdict.result (record {
      execution = c.self.invariant.execution;
      few_edits = c.self.invariant.few_edits;
      low = c.self.invariant.low;
      found = c.in-Ok.ensures.finding;
      verdict = c.in-Ok.ensures.verdict;
    }) c.verdict-verdict.ensures
