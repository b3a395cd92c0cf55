use Rattle.cstn_follow.proofs.Copying.{copy_followed}
use Rattle.cstn_follow.proofs.session.Session.copy.Goals as goal

pub invariant_of-result : goal.invariant_of-result
invariant_of-result c =
    let w = c.self.inside in
    copy_followed w.execution c.in_ok-execution.execution w.cap.entries w.edits w.finding c.in_ok-finding.finding c.in_ok-execution.ensures.same
    c.in_ok-execution.ensures.execution c.in_ok-finding.ensures.same c.self.invariant
